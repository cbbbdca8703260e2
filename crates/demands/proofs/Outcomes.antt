-- At most one outcome meets the promise of each public function. A promise says what the result equals, and what
-- lies behind each `&mut`; so two outcomes that meet it both equal what it says. An outcome is the result (of a
-- `&`, what lies behind it) and a tuple over the parameters, which has the last value of what lies behind a `&mut`,
-- and nothing of any other. So the proof follows from the signature, and `.ci/claims write` writes it: p and q are
-- that each keeps the promise.
--     same      two that equal a third
--     lent      a `&mut`, whose last values equal a third, and the parameters after it
--     past      any other parameter, and those after it
-- Assumes nothing.
use mathlib.Core.Path.{◌≡◌, refl, sym, ap, ap₂, ◌∙◌}
use Rattle.demands.specs.Outcomes.{Outcomes}

same : {A : Type 0} {x y z : A} → x ≡ z → y ≡ z → x ≡ y
same p q = p ∙ sym q

lent : {A B : Type 0} {x y z : A} {v w : B} → x ≡ z → y ≡ z → v ≡ w → ◌≡◌ {A = A × B} (x, v) (y, w)
lent p q rest = ap₂ (λ x v. (x, v)) (same p q) rest

past : {A B : Type 0} {a : A} {v w : B} → v ≡ w → ◌≡◌ {A = A × B} (a, v) (a, w)
past {a} rest = ap (λ v. (a, v)) rest

pub outcomes : Outcomes
outcomes = record {
  -- proofs, by .ci/claims write
  -- masks
  U8FieldBits = λ κs a x y v w p q. (same p.0 q.0, refl);
  U16FieldBits = λ κs a x y v w p q. (same p.0 q.0, refl);
  agree = λ g1 g2 g3 g4 g5 g6 g7 κs a x y v w p q. (same p q, refl);
  clash = λ g1 g2 g3 g4 g5 g6 g7 κs a x y v w p q. (same p q, refl);
  gate = λ κs a x y v w p q. (same p q, refl);
  -- pieces
  join = λ κs a x y v w p q. (same p q, refl);
  within = λ κs a x y v w p q. (same p q, refl);
  put_zeros = λ κs a x y v w p q. (refl, lent p q refl);
  -- text
  digits_decimal = λ κs a x y v w p q. (same p q, refl);
  digits_hex = λ κs a x y v w p q. (same p q, refl);
  digits_digit = λ κs a x y v w p q. (same p q, refl);
  digits_byte_of = λ κs a x y v w p q. (same p q, refl);
  digits_hex_digit = λ κs a x y v w p q. (same p q, refl);
  TextNew = λ κs a x y v w p q. (same p q, refl);
  TextIsEmpty = λ κs a x y v w p q. (same p q, refl);
  TextHeld = λ κs a x y v w p q. (same p q, refl);
  TextPush = λ κs a x y v w p q. (same p q, refl);
  TextWithBytes = λ κs a x y v w p q. (same p q, refl);
  TextOf = λ κs a x y v w p q. (same p q, refl);
  TextWithHex = λ κs a x y v w p q. (same p q, refl);
  TextWithNumber = λ κs a x y v w p q. (same p q, refl);
  -- descriptors
  DescriptorEnabled = λ κs a x y v w p q. (same p q, refl);
  DescriptorProtected = λ κs a x y v w p q. (same p q, refl);
  DescriptorPending = λ κs a x y v w p q. (same p q, refl);
  DescriptorWithSsr = λ κs a x y v w p q. (same p q, refl);
  DescriptorMatchAnswer = λ κs a x y v w p q. (same p q, refl);
  DescriptorPhysicalPage = λ κs a x y v w p q. (same p q, refl);
  DescriptorBytes = λ κs a x y v w p q. (same p q, refl);
  DescriptorCollides = λ κs a x y v w p q. (same p q, refl);
  status_clean = λ κs a x y v w p q. (same p q, refl);
  status_used = λ κs a x y v w p q. (same p q, refl);
  status_modified = λ κs a x y v w p q. (same p q, refl);
  status_disabled = λ κs a x y v w p q. (same p q, refl);
  status_rewritten = λ κs a x y v w p q. (same p q, refl);
  -- registers
  GsrFaulted = λ κs a x y v w p q. (same p q, refl);
  GsrFromU8From = λ κs a x y v w p q. (same p q, refl);
  U8FromGsrFrom = λ κs a x y v w p q. (same p q, refl);
  SharedEntry = λ κs a x y v w p q. (same p q, refl);
  SharedWithEntry = λ κs a x y v w p q. (same p q, refl);
  SharedWithGsr = λ κs a x y v w p q. (same p q, refl);
  SharedWithIvr = λ κs a x y v w p q. (same p q, refl);
  unit_rdp_of = λ κs a x y v w p q. (same p q, refl);
  unit_l_of = λ κs a x y v w p q. (same p q, refl);
  unit_rw_of = λ κs a x y v w p q. (same p q, refl);
  unit_accumulator_of = λ κs a x y v w p q. (same p q, refl);
  UnitReport = λ κs a x y v w p q. (same p q, refl);
  UnitTake = λ κs a x y v w p q. (same p q, refl);
  UnitTranslated = λ κs a x y v w p q. (same p q, refl);
  UnitChange = λ κs a x y v w p q. (same p q, refl);
  UnitConsistent = λ κs a x y v w p q. (same p q, refl);
  UnitValues = λ κs a x y v w p q. (same p q, refl);
  UnitMarks = λ κs a x y v w p q. (same p q, refl);
  UnitHeldLsr = λ κs a x y v w p q. (same p q, refl);
  UnitLsr = λ κs a x y v w p q. (same p q, refl);
  UnitAc = λ κs a x y v w p q. (same p q, refl);
  UnitPage = λ κs a x y v w p q. (same p q, refl);
  UnitSegment = λ κs a x y v w p q. (same p q, refl);
  -- chip
  RefusalNumber = λ κs a x y v w p q. (same p q, refl);
  AnswerValues = λ κs a x y v w p q. (same p q, refl);
  answer_refuse = λ g1 g2 g3 g4 g5 κs a x y v w p q. (same p q, refl);
  answer_miscounted = λ κs a x y v w p q. (same p q, refl);
  SystemGranted = λ κs a x y v w p q. (same p q, refl);
  SystemPerform = λ κs a x y v w p q. (same p q, refl);
  SystemNothing = λ κs a x y v w p q. (same p q, refl);
  SystemPresent = λ κs a x y v w p q. (same p q, refl);
  -- block
  block_read = λ κs a x y v w p q. (same p q, refl);
  block_write = λ κs a x y v w p q. (refl, lent p q refl);
  -- image
  read_restore = λ κs a x y v w p q. (same p q, refl);
  ImageRefusalNumber = λ κs a x y v w p q. (same p q, refl);
  write_save = λ κs a x y v w p q. (same p.0 q.0, lent p.1 q.1 refl);
  -- cleftromi
  cleftromi_start = λ κs a x y v w p q. (same p.0 q.0, lent p.1 q.1 refl);
  cleftromi_reset = λ κs a x y v w p q. (same p.0 q.0, lent p.1 q.1 refl);
  cleftromi_access = λ κs a x y v w p q. (same p.0 q.0, lent p.1 q.1 refl);
  cleftromi_register = λ κs a x y v w p q. (same p.0 q.0, lent p.1 q.1 refl);
  cleftromi_acknowledge = λ κs a x y v w p q. (same p.0 q.0, lent p.1 q.1 refl);
  cleftromi_save = λ κs a x y v w p q. (same p.0 q.0, lent p.1.0 q.1.0 (lent p.1.1 q.1.1 refl));
  cleftromi_restore = λ κs a x y v w p q. (same p.0 q.0, lent p.1 q.1 refl);
  -- lines
  turn_answer = λ κs a x y v w p q. (same p q, refl);
  -- end
}
