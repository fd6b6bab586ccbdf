-- The parts of a form as a loop puts them, and the report around them. Assumes nothing.
use Rattle.std.proofs.Common.{◌≡◌, ℕ, ◌+◌, ◌*◌, ◌≤◌, ◌<◌, ◌&&◌, Bool, List, [], ◌∷◌, ◌++◌, refl, sym, ap, ◌∙◌, arith, true, ◌/◌, ◌%◌, length, length-append, append_assoc, zero-add, length-take, take, drop}
use mir.Syntax.{w32}
use mir.Val.{of_z}
use native.Mathlib.Nat.{div-div-eq-div-mul}
use lib.Seq.{sets-eq, take_at, drop_at}
use Rattle.fields.specs.Lists.{pick, part, put, series}
use Rattle.fields.specs.Fields.{bytes_of}
use Rattle.fields.proofs.Slices.{series-snoc}
use Rattle.report.specs.declared.Head.{Head}
use Rattle.report.specs.declared.Part.{Part}
use Rattle.report.specs.Report.{text_mark}
use Rattle.report.specs.Encoded.{encode_head, encode_part, encode_parts, encode_report}
use Rattle.texts.specs.declared.Text.{Text}
use Rattle.texts.specs.Texts.{Writes, Puts}
use Rattle.texts.proofs.Texts.{then, same_text}
use Rattle.forms.specs.Form.{point_line}
use Rattle.form_reading.specs.declared.Grid.{Grid}
use Rattle.form_reading.specs.declared.Point.{Point}
use Rattle.form_reading.specs.declared.Lines.{Lines}
use Rattle.form_reading.specs.Reading.{is_point, point_in, point_at, minute_of, grid_of, part_in, parts_in, report_by}
use Rattle.form_reader.specs.Spelled.{Told}
use Rattle.form_reader.specs.SpelledForm.{body_by}
use Rattle.form_reader.proofs.SpelledPoints.{PointsTold, points_none, points_more}

encode-snoc : (ps : List Part) (p : Part) → encode_parts (ps ++ (p ∷ [])) ≡ encode_parts ps ++ encode_part p
unfolding encode_parts bytes_of
encode-snoc [] p = refl
encode-snoc (q ∷ ps) p = ap (λ (x : List ℕ). encode_part q ++ x) (encode-snoc ps p) ∙ sym (append_assoc (encode_part q) (encode_parts ps) (encode_part p))

encode-more : (f : ℕ → Part) (j : ℕ) → encode_parts (series f 0 j) ++ encode_part (f j) ≡ encode_parts (series f 0 (j + 1))
encode-more f j =
    sym (ap encode_parts (series-snoc f 0 j) ∙ encode-snoc (series f 0 j) (f (0 + j)) ∙ ap (λ (i : ℕ). encode_parts (series f 0 j) ++ encode_part (f i)) (zero-add j))

-- the part of a point
abbrev pub part_by : Grid → Point → Bool → Point → Part
part_by g point more next = record {
  period = record { start = minute_of g point.position; end = pick more (minute_of g next.position) g.period.end };
  power = point.power;
}

part_by_point : {point next : Point} {more : Bool} (s : List ℕ) (g : Grid) (at : ℕ) → point ≡ point_in s at → more ≡ is_point s point.next
    → next ≡ point_in s point.next → part_by g point more next ≡ part_in s g at
part_by_point s g at e asked ahead = rw (asked, ahead, e)

-- two numbers in one of eight bytes
pair-bytes : (a b : ℕ) → a < 4294967296 → let v = a + b * 4294967296 in
    v % 256 ∷ v / 256 % 256 ∷ v / 65536 % 256 ∷ v / 16777216 % 256 ∷ v / 4294967296 % 256 ∷ v / 1099511627776 % 256
    ∷ v / 281474976710656 % 256 ∷ v / 72057594037927936 % 256 ∷ [] ≡ bytes_of 4 a ++ bytes_of 4 b
unfolding bytes_of
pair-bytes a b l =
    let v = a + b * 4294967296 in
    let a2 : a / 256 / 256 ≡ a / 65536 = div-div-eq-div-mul a 256 256 in
    let a3 : a / 65536 / 256 ≡ a / 16777216 = div-div-eq-div-mul a 65536 256 in
    let b2 : b / 256 / 256 ≡ b / 65536 = div-div-eq-div-mul b 256 256 in
    let b3 : b / 65536 / 256 ≡ b / 16777216 = div-div-eq-div-mul b 65536 256 in
    let e0 : v % 256 ≡ a % 256 = omega arith in
    let e1 : v / 256 % 256 ≡ a / 256 % 256 = omega arith in
    let e2 : v / 65536 % 256 ≡ a / 65536 % 256 = omega arith in
    let e3 : v / 16777216 % 256 ≡ a / 16777216 % 256 = omega arith in
    let e4 : v / 4294967296 % 256 ≡ b % 256 = omega arith in
    let e5 : v / 1099511627776 % 256 ≡ b / 256 % 256 = omega arith in
    let e6 : v / 281474976710656 % 256 ≡ b / 65536 % 256 = omega arith in
    let e7 : v / 72057594037927936 % 256 ≡ b / 16777216 % 256 = omega arith in
    rw (a2, a3, b2, b3, e0, e1, e2, e3, e4, e5, e6, e7) refl

pub pair_put : {m n : ℕ} {bytes : List ℕ} {d e : Text} (a b : ℕ) → a < 4294967296 → m ≡ a → n ≡ b → let v = m + n * 4294967296 in
    bytes ≡ v % 256 ∷ v / 256 % 256 ∷ v / 65536 % 256 ∷ v / 16777216 % 256 ∷ v / 4294967296 % 256 ∷ v / 1099511627776 % 256
    ∷ v / 281474976710656 % 256 ∷ v / 72057594037927936 % 256 ∷ []
    → Writes (length bytes) d bytes e → Writes 8 d (bytes_of 4 a ++ bytes_of 4 b) e
unfolding bytes_of
pair_put a b l p q made w =
    let same = rw (p, q) at made ∙ pair-bytes a b l in
    same_text same (omega (arith, ap length same)) w

pub part_put : {u : ℕ} {a b d : Text} (p : Part) → u ≡ of_z w32 p.power.0
    → Writes 8 a (bytes_of 4 19280 ++ bytes_of 4 p.period.start.0) b → Writes 8 b (bytes_of 4 p.period.end.0 ++ bytes_of 4 u) d
    → Writes 16 a (encode_part p) d
unfolding bytes_of
part_put p e v w = same_text (rw e refl) (omega arith) (then v w)

-- j points are told and their parts are put; the next line is at `place`, and `point` is what it gives, if it is a point's
pub record PartsPut (s : List ℕ) (g : Grid) (at place j : ℕ) (spelled : Bool) (point : Point) (here : Bool) (a b : Text) : Type 0 where
  pub told : PointsTold s g at place j spelled
  pub read : point ≡ point_in s place
  pub position : point.position < 10000000000
  pub near : point.next ≤ place + 29
  pub line : (h : Head) → h.period ≡ g.period → Told (point_line h g.step (part_in s g place)) s place here point.next
  pub put : Writes (16 * j) a (encode_parts (parts_in s g at j)) b

pub parts_none : {s : List ℕ} {g : Grid} {at : ℕ} {point : Point} {here : Bool} {a b : Text} → point ≡ point_in s at
    → point.position < 10000000000 → point.next ≤ at + 29
    → ((h : Head) → h.period ≡ g.period → Told (point_line h g.step (part_in s g at)) s at here point.next) → Writes 0 a [] b
    → PartsPut s g at at 0 true point here a b
unfolding encode_parts series
parts_none {s} {g} {at} e p n l w = record { told = points_none s g at; read = e; position = p; near = n; line = l; put = w }

pub parts_more : {s : List ℕ} {g : Grid} {at place j : ℕ} {ok is more here ahead : Bool} {point next : Point} {p : Part} {a b d : Text}
    → PartsPut s g at place j ok point here a b → j < 100 → is ≡ is_point s place → is ≡ true → more ≡ is_point s point.next
    → next ≡ point_in s point.next → next.position < 10000000000 → next.next ≤ point.next + 29
    → ((h : Head) → h.period ≡ g.period → Told (point_line h g.step (part_in s g point.next)) s point.next ahead next.next)
    → p ≡ part_by g point more next → Writes 16 b (encode_part p) d
    → PartsPut s g at point.next (j + 1) (ok && here) next ahead a d
parts_more {s} {g} {at} {place} {j} {p = p} so_far few asked is behind read small near line e w =
    let f : ℕ → Part = λ i. part_in s g (point_at s at i) in
    let made : p ≡ f j = e ∙ part_by_point s g place so_far.read behind read ∙ ap (part_in s g) so_far.told.counted.place in
    record {
      told = points_more so_far.told few asked is so_far.read so_far.near so_far.line;
      read = read;
      position = small;
      near = near;
      line = line;
      put = same_text (rw made (encode-more f j)) (omega arith) (then so_far.put w);
    }

regroup : (a b c d : List ℕ) → a ++ b ++ c ++ d ≡ a ++ (b ++ (c ++ d))
regroup a b c d = simp append_assoc

-- the mark and the text behind them, and zeros where the head comes
pub body_put : {zeros there : List ℕ} {a b c d e : Text} (s : List ℕ) (l : Lines) → Writes 48 a zeros b
    → Writes 1600 b (encode_parts (parts_in s (grid_of l) l.points_at l.head.part_count)) c
    → Writes 2 c (84 ∷ 88 ∷ []) d → there ≡ part s l.text_at l.head.text_length → l.head.text_length ≤ 200
    → Writes (length there) d there e → Writes 1850 a (zeros ++ body_by s l) e
unfolding bytes_of part
body_put {zeros} {there} s l z p m q n t =
    let parts = encode_parts (parts_in s (grid_of l) l.points_at l.head.part_count) in
    let short : length there ≤ 200 = omega (arith, ap length q ∙ length-take l.head.text_length (drop l.text_at s)) in
    same_text (rw q (regroup zeros parts (84 ∷ 88 ∷ []) (part s l.text_at l.head.text_length))) (omega arith) (then (then (then z p) m) t)

-- h in place of z
over : (s z y h : List ℕ) (n : ℕ) → length z ≡ length h → n ≡ length (z ++ y) → length (z ++ y) ≤ length s
    → take n (put (put s 0 (z ++ y)) 0 h) ≡ h ++ y
unfolding put
over s z y h n e q l =
    let rest = drop (0 + length (z ++ y)) s in
    let long = length-append z y in
    let under = sets-eq (z ++ y) s 0 (omega (arith, l)) ∙ append_assoc z y rest in
    let room : 0 + length h ≤ length (z ++ (y ++ rest)) = rw (length-append z (y ++ rest)) (omega (arith, e)) in
    let size : length (h ++ y) ≡ n = rw (length-append h y, q, long, e) refl in
    let k : 0 + length h ≡ length h = zero-add (length h) in
    rw under
    (ap (take n) (sets-eq h (z ++ (y ++ rest)) 0 room ∙ rw (k, drop_at z (y ++ rest) (length h) e) (sym (append_assoc h y rest)))
    ∙ take_at (h ++ y) rest n size)

-- the head in place of zeros
pub head_over : {m n : ℕ} {here there head last : List ℕ} (zeros s : List ℕ) (l : Lines) → Puts m here (zeros ++ body_by s l) there n → m ≤ length here
    → length zeros ≡ 48 → head ≡ encode_head l.head → length head ≡ 48 → last ≡ put there 0 head → take n last ≡ report_by s l
unfolding report_by encode_report
head_over {m} {n} {here} {there} {head} {last} zeros s l p room long e size after =
    let parts = encode_parts (parts_in s (grid_of l) l.points_at l.head.part_count) in
    let text = part s l.text_at l.head.text_length in
    let fits : length (zeros ++ body_by s l) ≤ length here = omega (arith, room, p.value, p.upper_bound) in
    rw (after, p.text_after) (over here zeros (body_by s l) head n (long ∙ sym size) p.value fits)
    ∙ ap (λ (x : List ℕ). x ++ body_by s l) e ∙ sym (regroup (encode_head l.head) parts (bytes_of 2 text_mark) text)
