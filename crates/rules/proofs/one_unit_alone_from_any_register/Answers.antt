use Rattle.rules.proofs.OneUnitAlone.{register-begins, one-unit-alone-from-any-register}
use Rattle.rules.proofs.AlikeLists.{accepted-at-desk, alike}
use Rattle.rules.proofs.one_unit_alone_from_any_register.Goals as goal

pub returns : goal.returns
returns c = record {
  alone = one-unit-alone-from-any-register;
  accepted = λ register ok. accepted-at-desk _ _ (register-begins register ok);
  alike = λ unit register register' ok ok'. alike unit (register-begins register ok) (register-begins register' ok');
}
