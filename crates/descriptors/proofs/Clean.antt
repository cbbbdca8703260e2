-- The clean form of a status and of a descriptor (handbook 3.1.6).
--     clean_twice                  it is clean
--     status_fits                  it is a byte
--     used_clean, modified_clean, disabled_clean, rewritten_clean     each change of a status keeps it
--     pending_enabled              it has IP only with E
--     ssr_clean                    a segment with another status
--     zeros_clean                  the descriptor of zeros
-- Assumes nothing.
use Prim.Native.Nat.{ℕ, ◌^◌, ◌<◌}
use mathlib.Core.Path.{◌≡◌, refl, sym, ap, ◌∙◌}
use mathlib.Core.Bool.{Bool, true, false, not, ◌&&◌, ◌||◌, cond, false≢true}
use lib.Dec.{eqb, lit<}
use borrow.Author.Tests.{eq-eqb, eqb-true}
use Rattle.masks.specs.Fields.{bit, every, field}
use Rattle.masks.proofs.Bits.{bit_field, field_cong, field_fits, every_at}
use Rattle.descriptors.specs.Status.{E, IP, reserved, raise, lower, clean, used, modified, disabled, rewritten}
use Rattle.descriptors.specs.Descriptor.{zeros, with_ssr}
use Rattle.descriptors.specs.Clean.{CleanDescriptor}
use Rattle.descriptors.specs.declared.descriptor.Descriptor.{Descriptor}

pub status_fits : (x : ℕ) → clean x ≡ x → x < 2 ^ 8
unfolding clean
status_fits x e = rw (← e) (field_fits 8 _)

-- bit by bit
kept : (x i : ℕ) → Bool
kept x i = cond (reserved i || (eqb i IP && not (bit x E))) false (bit x i)

clean_bit : (x i : ℕ) → i < 8 → bit (clean x) i ≡ kept x i
unfolding clean kept
clean_bit x i h = bit_field 8 (kept x) i h

pub clean_twice : (x : ℕ) → clean (clean x) ≡ clean x
unfolding clean kept
clean_twice x =
    field_cong 8 (kept (clean x)) (kept x)
    (λ i h. rw (clean_bit x E (lit< tt), clean_bit x i h) (twice (reserved i || (eqb i IP && not (bit x E))) (bit x i)))
  where
    twice : (b v : Bool) → cond b false (cond b false v) ≡ cond b false v
    twice true v = refl
    twice false v = refl

-- a clean status has IP only with E
pub pending_enabled : (ssr : ℕ) → clean ssr ≡ ssr → bit ssr IP ≡ true → bit ssr E ≡ true
unfolding kept
pending_enabled ssr c p = go (bit ssr E) (sym (clean_bit ssr IP (lit< tt)) ∙ ap (λ (x : ℕ). bit x IP) c ∙ p)
  where
    go : (b : Bool) → cond (reserved IP || (eqb IP IP && not b)) false (bit ssr IP) ≡ true → b ≡ true
    go true e = refl
    go false e = absurd (false≢true e)

-- one test over all statuses
used_test : ℕ → Bool
used_test x = cond (eqb (clean x) x && bit x E) (eqb (clean (used x)) (used x)) true

modified_test : ℕ → Bool
modified_test x = cond (eqb (clean x) x) (eqb (clean (modified x)) (modified x)) true

all_used : every 256 used_test ≡ true
unfolding every used_test clean used raise field bit
all_used = refl

all_modified : every 256 modified_test ≡ true
unfolding every modified_test clean modified raise field bit
all_modified = refl

pub used_clean : (x : ℕ) → clean x ≡ x → bit x E ≡ true → clean (used x) ≡ used x
unfolding used_test
used_clean x c e =
    eqb-true _ _ (rw (eq-eqb _ _ c, e) at ((every_at 256 used_test).0 all_used x (status_fits x c)))

pub modified_clean : (x : ℕ) → clean x ≡ x → clean (modified x) ≡ modified x
unfolding modified_test
modified_clean x c = eqb-true _ _ (rw (eq-eqb _ _ c) at ((every_at 256 modified_test).0 all_modified x (status_fits x c)))

pub disabled_clean : (x : ℕ) → clean (disabled x) ≡ disabled x
unfolding disabled
disabled_clean x = clean_twice (lower E x)

pub rewritten_clean : (old value : ℕ) → clean (rewritten old value) ≡ rewritten old value
unfolding rewritten
rewritten_clean old value = go (bit old E)
  where
    go : (b : Bool) → clean (cond b (clean value) (disabled value)) ≡ cond b (clean value) (disabled value)
    go true = clean_twice value
    go false = disabled_clean value

pub ssr_clean : (d : Descriptor) (ssr : ℕ) → CleanDescriptor d → clean ssr ≡ ssr → CleanDescriptor (with_ssr d ssr)
ssr_clean d ssr c e = record { lba = c.lba; lam = c.lam; pba = c.pba; asn = c.asn; ssr = e; asm = c.asm }

pub zeros_clean : CleanDescriptor zeros
unfolding clean field bit
zeros_clean = record { lba = lit< tt; lam = lit< tt; pba = lit< tt; asn = lit< tt; ssr = refl; asm = lit< tt }
