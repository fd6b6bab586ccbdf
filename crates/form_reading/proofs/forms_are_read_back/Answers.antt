use Rattle.form_reading.proofs.Round.{read_back, read_has_form, apart, refused, only_refused}
use Rattle.form_reading.proofs.forms_are_read_back.Goals as goal

pub returns : goal.returns
returns c = record {
  report = read_back;
  form = read_has_form;
  apart = apart;
  refused = refused;
  only = only_refused;
}
