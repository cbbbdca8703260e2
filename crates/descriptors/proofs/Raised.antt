-- The status after an access, bit by bit (handbook 3.1.6).
--     used_raised, modified_raised    U, with IP if I is set; and M
--     same_raised                     nothing
--     used_twice                      a second use changes nothing
-- Assumes nothing.
use Prim.Native.Nat.{ℕ, ◌<◌, ◌^◌}
use mathlib.Core.Path.{◌≡◌, refl, ◌∙◌}
use mathlib.Core.Bool.{Bool, true, false, ◌||◌, ◌&&◌, cond}
use lib.Dec.{eqb, lit<}
use borrow.Author.Tests.{eqb-true, ne_eqb}
use Rattle.masks.specs.Fields.{bit, field, every}
use Rattle.masks.proofs.Bits.{bit_field, every_at}
use Rattle.descriptors.specs.Status.{M, IP, I, U, raise, used, modified, Raised}

raise_bit : (i ssr k : ℕ) → k < 8 → bit (raise i ssr) k ≡ (eqb k i || bit ssr k)
unfolding raise
raise_bit i ssr k h = bit_field 8 _ k h

used_bit : (ssr k : ℕ) → k < 8 → bit (used ssr) k ≡ cond (bit ssr I) (eqb k IP || (eqb k U || bit ssr k)) (eqb k U || bit ssr k)
unfolding used
used_bit ssr k h = go (bit ssr I)
  where
    go : (b : Bool) → bit (cond b (raise IP (raise U ssr)) (raise U ssr)) k ≡ cond b (eqb k IP || (eqb k U || bit ssr k)) (eqb k U || bit ssr k)
    go true = raise_bit IP (raise U ssr) k h ∙ rw (raise_bit U ssr k h)
    go false = raise_bit U ssr k h

set : (b : Bool) → true ≡ (b || true)
set true = refl
set false = refl

kept : (b : Bool) → b ≡ (b || false)
kept true = refl
kept false = refl

alike : (b x : Bool) → cond b x x ≡ x
alike true x = refl
alike false x = refl

pub used_raised : (ssr : ℕ) → Raised (true, false) ssr (used ssr)
used_raised ssr = record {
  u = used_bit ssr U (lit< tt) ∙ alike (bit ssr I) true ∙ set (bit ssr U);
  m = used_bit ssr M (lit< tt) ∙ alike (bit ssr I) (bit ssr M) ∙ kept (bit ssr M);
  ip = used_bit ssr IP (lit< tt) ∙ with_i (bit ssr I) (bit ssr IP);
  others = λ k h u m ip. used_bit ssr k h ∙ rw (ne_eqb k IP ip, ne_eqb k U u) (alike (bit ssr I) (bit ssr k));
}
  where
    with_i : (i ip : Bool) → cond i true ip ≡ (ip || true && i)
    with_i true ip = set ip
    with_i false ip = kept ip

pub modified_raised : (u : Bool) (before ssr : ℕ) → Raised (u, false) before ssr → Raised (u, true) before (modified ssr)
unfolding modified
modified_raised u before ssr r = record {
  u = raise_bit M ssr U (lit< tt) ∙ r.u;
  m = raise_bit M ssr M (lit< tt) ∙ set (bit before M);
  ip = raise_bit M ssr IP (lit< tt) ∙ r.ip;
  others = λ k h u m ip. raise_bit M ssr k h ∙ rw (ne_eqb k M m) (r.others k h u m ip);
}

pub same_raised : (ssr : ℕ) → Raised (false, false) ssr ssr
same_raised ssr = record { u = kept (bit ssr U); m = kept (bit ssr M); ip = kept (bit ssr IP); others = λ k h u m ip. refl }

-- one test over all statuses
twice_test : ℕ → Bool
twice_test x = eqb (used (used x)) (used x)

all_twice : every 256 twice_test ≡ true
unfolding every twice_test used raise field bit
all_twice = refl

pub used_twice : (x : ℕ) → x < 2 ^ 8 → used (used x) ≡ used x
unfolding twice_test
used_twice x h = eqb-true _ _ ((every_at 256 twice_test).0 all_twice x h)
