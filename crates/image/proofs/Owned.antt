-- What a block of bytes that keeps its own rules holds: each register in clean form, which is written again as it was.
--     status_clean, rdp_clean, gsr_again, lsr_again       each byte, by a test of all 256
--     owned                                               the parts of the rules
--     shared_clean, unit_clean, descriptor_clean          what is read
-- Assumes nothing.
use Rattle.std.proofs.Common.{◌≡◌, ℕ, ◌+◌, ◌*◌, ◌/◌, ◌%◌, ◌^◌, ◌<◌, Bool, true, not, ◌&&◌, ◌||◌, eqb, List, get_or, refl, arith, lit<, get_or-drop, eqb-true}
use mathlib.Core.Bool.{and-eq-true_iff}
use Rattle.masks.specs.Fields.{bit, every, field}
use Rattle.masks.proofs.Bits.{every_at}
use Rattle.pieces.specs.Pieces.{Bytes}
use Rattle.pieces.proofs.Bytes.{bytes_drop, word_fits}
use Rattle.descriptors.specs.Status.{clean}
use Rattle.descriptors.specs.Clean.{CleanDescriptor}
use Rattle.registers.specs.Unit.{rdp_of, l_of, rw_of, flag, local, marked, accumulator_of}
use Rattle.registers.specs.Shared.{gsr_of, gsr_byte}
use Rattle.registers.specs.Clean.{CleanUnit, CleanShared}
use Rattle.registers.specs.declared.unit.Byte.{Byte}
use Rattle.image.specs.Block.{number, accumulator, marks, dp, gsr, lsr, rdp, place, ssr, reserved, shared_of, unit_of, descriptor_of}
use Rattle.image.specs.Rules.{clear, nvr_alone, allowed, own}
use Rattle.image.proofs.Cut.{all_listed}

-- f gives back each byte that passes the test
abbrev gives_back : (test : ℕ → Bool) (f : ℕ → ℕ) → ℕ → Bool
gives_back test f x = not (test x) || eqb (f x) x

by_test : (test : ℕ → Bool) (f : ℕ → ℕ) → every 256 (gives_back test f) ≡ true → (x : ℕ) → x < 2 ^ 8 → test x ≡ true → f x ≡ x
by_test test f e x h t = eqb-true (f x) x (rw t at ((every_at 256 (gives_back test f)).0 e x h))

pub status_clean : (x : ℕ) → x < 2 ^ 8 → allowed x ≡ true → clean x ≡ x
unfolding every clean field bit
status_clean = by_test allowed clean refl

pub rdp_clean : (x : ℕ) → x < 2 ^ 8 → clear 5 2 x && nvr_alone x ≡ true → rdp_of x ≡ x
unfolding every bit
rdp_clean = by_test (λ x. clear 5 2 x && nvr_alone x) rdp_of refl

pub gsr_again : (x : ℕ) → x < 2 ^ 8 → clear 1 5 x ≡ true → gsr_byte (gsr_of x) ≡ x
unfolding every bit
gsr_again = by_test (clear 1 5) (λ x. gsr_byte (gsr_of x)) refl

pub lsr_again : (x : ℕ) → x < 2 ^ 8 → clear 0 3 x ≡ true → 16 * (l_of x % 16) + 8 * flag (rw_of x) ≡ x
unfolding every bit
lsr_again = by_test (clear 0 3) (λ x. 16 * (l_of x % 16) + 8 * flag (rw_of x)) refl

pub record Owned (m : ℕ) (b : List ℕ) : Type 0 where
  pub is_number : number b ≡ m
  pub nine_marks : marks b < 2 ^ 9
  pub five_bits : dp b < 2 ^ 5
  pub gsr_back : gsr_byte (gsr_of (gsr b)) ≡ gsr b
  pub lsr_back : 16 * (l_of (lsr b) % 16) + 8 * flag (rw_of (lsr b)) ≡ lsr b
  pub rdp_back : rdp_of (rdp b) ≡ rdp b
  pub status : (n : ℕ) → n < 32 → clean (ssr n b) ≡ ssr n b
  pub rest : (i : ℕ) → i < 188 → reserved b i ≡ 0

pub owned : (m : ℕ) (b : List ℕ) → Bytes b → own m b ≡ true → Owned m b
unfolding own
owned m b h e =
    let all = simp and-eq-true_iff at e in
    let registers = all.0.0.0.1 in
    let high : marks b / 2 ^ 9 % 2 ^ 7 ≡ 0 = eqb-true _ _ registers.0.0.0.0 in
    let word : marks b < 2 ^ 16 = word_fits (h 28) (h 27) in
    let top : dp b / 2 ^ 5 % 2 ^ 3 ≡ 0 = eqb-true _ _ registers.0.0.0.1 in
    record {
      is_number = eqb-true _ _ all.0.0.0.0;
      nine_marks = omega arith;
      five_bits = omega (arith, h 29);
      gsr_back = gsr_again (gsr b) (h 31) registers.0.0.1;
      lsr_back = lsr_again (lsr b) (h 32) registers.0.1;
      rdp_back = rdp_clean (rdp b) (h 33) ((and-eq-true_iff (clear 5 2 (rdp b)) _).1 (registers.1, all.0.0.1));
      status = λ n l. status_clean (ssr n b) (h _) ((every_at 32 _).0 all.0.1 n l);
      rest = λ i l. eqb-true _ _ ((every_at 188 _).0 all.1 i l);
    }

-- ---- what it reads as is in clean form
module _ (b : List ℕ) (h : Bytes b) where
  pub shared_clean : CleanShared (shared_of b)
  unfolding shared_of
  shared_clean = record {
    entries = refl;
    entry = all_listed (λ (x : ℕ). x < 2 ^ 8) 0 (lit< tt) 16 (λ i. get_or b (2 + i) 0) (λ i. h (2 + i));
    ivr = h 30;
    count = h 1;
  }

  pub unit_clean : (m : ℕ) → Owned m b → CleanUnit (unit_of b)
  unfolding unit_of accumulator_of
  unit_clean m o = record {
    bytes = refl;
    ac = all_listed (λ (x : Byte). x.value < 2 ^ 8) (local 0) (lit< tt) 9 (λ i. marked (get_or (accumulator b) i 0) (marks b) i)
        (all_listed (λ (x : ℕ). x < 2 ^ 8) 0 (lit< tt) 9 (λ i. get_or b (18 + i) 0) (λ i. h (18 + i)));
    dp = o.five_bits;
    rdp = o.rdp_back;
    l = omega (arith, h 32);
  }

  pub descriptor_clean : (m n : ℕ) → n < 32 → Owned m b → CleanDescriptor (descriptor_of n b)
  unfolding descriptor_of
  descriptor_clean m n l o =
      let d = bytes_drop (place n) b h in
      record {
        lba = word_fits (d 1) (d 0);
        lam = word_fits (d 3) (d 2);
        pba = word_fits (d 5) (d 4);
        asn = d 6;
        ssr = rw get_or-drop (o.status n l);
        asm = d 8;
      }
