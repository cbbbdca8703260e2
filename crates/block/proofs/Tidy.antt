-- Reading always gives a system in clean form, and what is written is the one form of it.
--     read_clean      any bytes
--     one_form        writing what was read from a written block gives its bytes
--     past_stays      bytes past the block stay, and so does the length
-- Assumes nothing.
use Prim.Native.Nat.{ℕ, ◌*◌, ◌^◌, ◌<◌, ◌≤◌, min}
use mathlib.Core.Path.{◌≡◌, refl, ap}
use mathlib.Core.Bool.{Bool, true, false, cond}
use mathlib.Core.List.{List, ◌++◌}
use native.Mathlib.Omega.{arith}
use lib.Dec.{ltb, lit<}
use lib.ListN.{length, drop, get_or, length-drop, length-take, get_or-eq_default}
use lib.Seq.{drop_at}
use borrow.Author.Tests.{ltb-true, ltb-false}
use Rattle.pieces.specs.Pieces.{Bytes, list_of, low_first_at}
use Rattle.pieces.proofs.Bytes.{bytes_drop, bytes_take, word_fits}
use Rattle.pieces.proofs.Stores.{at_listed}
use Rattle.descriptors.specs.Descriptor.{zeros}
use Rattle.registers.specs.Unit.{local, marked, accumulator_of, no_unit, ac}
use Rattle.chip.specs.Reset.{blank, nothing}
use Rattle.descriptors.proofs.Clean.{clean_twice}
use Rattle.registers.proofs.Clean.{rdp_twice}
use Rattle.chip.proofs.Clean.{nothing_clean}
use Rattle.chip.proofs.Each.{filled_below, filled_past, length_filled}
use Rattle.descriptors.specs.declared.descriptor.Descriptor.{Descriptor}
use Rattle.registers.specs.declared.unit.Unit.{Unit}
use Rattle.chip.specs.declared.system.System.{System}
use Rattle.block.specs.Layout.{size, unit_place, descriptor_place, form, written}
use Rattle.block.specs.Layout.{unit_of, descriptor_of, shared_of, system_of, read}
use Rattle.descriptors.specs.Clean.{CleanDescriptor}
use Rattle.registers.specs.Clean.{CleanUnit, CleanShared}
use Rattle.chip.specs.Clean.{Clean}
use Rattle.block.proofs.Round.{length_form, system_back}

clean_descriptor : (b : List ℕ) → Bytes b → CleanDescriptor (descriptor_of b)
unfolding descriptor_of
clean_descriptor b h = record {
  lba = word_fits (h 0) (h 1);
  lam = word_fits (h 2) (h 3);
  pba = word_fits (h 4) (h 5);
  asn = h 6;
  ssr = clean_twice (get_or b 7 0);
  asm = h 8;
}

in_nine : (b : List ℕ) → Bytes b → (i : ℕ) → ac (unit_of b) i < 2 ^ 8
unfolding unit_of accumulator_of
in_nine b h i = go (ltb i 9) refl
  where
    go : (t : Bool) → ltb i 9 ≡ t → ac (unit_of b) i < 2 ^ 8
    go true q =
        let l : i < 9 = ltb-true i 9 q in
        rw (at_listed (local 0) 9 (λ k. marked (get_or (list_of 9 (λ j. get_or b j 0)) k 0) (low_first_at b 9) k) i l, at_listed 0 9 (λ j. get_or b j 0) i l) (h i)
    go false q =
        let l : 9 ≤ i = ltb-false i 9 q in
        rw (get_or-eq_default (unit_of b).accumulator (local 0) {n = i} l) (lit< tt)

clean_unit : (b : List ℕ) → Bytes b → CleanUnit (unit_of b)
unfolding unit_of accumulator_of
clean_unit b h = record {
  bytes = refl;
  ac = in_nine b h;
  dp = omega arith;
  rdp = rdp_twice (get_or b 13 0);
  l = omega (arith, h 12);
}

clean_shared : (b : List ℕ) → size ≤ length b → Bytes b → CleanShared (shared_of b)
unfolding shared_of
clean_shared b l h = record {
  entries = simp (length-take, length-drop) (omega arith);
  entry = bytes_take 16 (drop 16 b) (bytes_drop 16 b h);
  ivr = h 2;
  count = h 0;
}

clean_system : (b : List ℕ) → size ≤ length b → Bytes b → Clean (system_of b)
unfolding system_of shared_of
clean_system b l h =
    let n = min (get_or b 0 0) 6 in
    let u : ℕ → Unit = λ m. unit_of (drop (unit_place m) b) in
    let d : ℕ → Descriptor = λ i. descriptor_of (drop (descriptor_place i) b) in
    record {
      shared = clean_shared b l h;
      places = (length_filled no_unit n 6 u blank, length_filled zeros (32 * n) 192 d zeros);
      units = λ m k. rw (filled_below no_unit n 6 u blank m k (omega arith)) (clean_unit _ (bytes_drop (unit_place m) b h));
      descriptors = λ i k. rw (filled_below zeros (32 * n) 192 d zeros i k (omega arith)) (clean_descriptor _ (bytes_drop (descriptor_place i) b h));
      no_unit = λ m k q. filled_past no_unit n 6 u blank m k q;
      no_descriptor = λ i k q. filled_past zeros (32 * n) 192 d zeros i k q;
    }

pub read_clean : (b : List ℕ) → Bytes b → Clean (read b)
unfolding read
read_clean b h = go (ltb (length b) size) refl
  where
    go : (t : Bool) → ltb (length b) size ≡ t → Clean (cond t nothing (system_of b))
    go true q = nothing_clean
    go false q = clean_system b (ltb-false (length b) size q) h

-- writing what was read from a written block gives its bytes
pub one_form : (s : System) (r : List ℕ) → Clean s → form (read (form s ++ r)) ≡ form s
one_form s r c = ap form (system_back s r c)

-- bytes past the block stay
pub past_stays : (b : List ℕ) (s : System) → length s.shared.table ≡ 16 → drop size (written b s) ≡ drop size b
unfolding written
past_stays b s e = go (ltb (length b) size)
  where
    go : (t : Bool) → drop size (cond t b (form s ++ drop size b)) ≡ drop size b
    go true = refl
    go false = drop_at (form s) (drop size b) size (length_form s e b)
