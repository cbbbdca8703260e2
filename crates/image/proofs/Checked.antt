-- A table of checks that is made of pieces: the first that applies decides.
--     past, stays             a piece of which no check applies, and one of which some does
--     pieces_split            the piece m, between those before it and those after
--     one_more, stopped       a loop over the pieces, and where it stops
--     past_check, none_of_both, none_of_pieces       no check applies
--     decided_ok              where none applies
-- Assumes nothing.
use Rattle.std.proofs.Common.{◌≡◌, ℕ, zero, suc, ◌+◌, ◌<◌, Bool, true, false, cond, ◌↔◌, List, [], ◌∷◌, ◌++◌, sym, refl, ap, ◌∙◌, ⊎_elim, true≢false, append_assoc, append-nil, le_of_suc-le-suc, not-suc-le-zero, eq-or-lt_of_le, add-one, arith, Result, Ok, Err, is_ok}
use Rattle.std.specs.Prelude.{⊤}
use Rattle.std.specs.Result.{result_unwrap_or}
use Rattle.pieces.specs.Pieces.{pieces}
use Rattle.chip.specs.Answer.{decided, passed}

pub pieces_split : {A : Type 0} (f : ℕ → List A) (n m : ℕ) → m < n → (r : List A) × (pieces n f ≡ pieces m f ++ (f m ++ r))
unfolding pieces
pieces_split f zero m h = absurd (not-suc-le-zero h)
pieces_split f (suc n) m h =
    ⊎_elim (λ (e : m ≡ n). ([], rw (e, append-nil)))
    (λ l. let below = pieces_split f n m l in (below.0 ++ f n, rw (below.1, append_assoc, append_assoc)))
    (eq-or-lt_of_le (le_of_suc-le-suc h))

-- the refusal, or r where there is none
abbrev refusal_or : {R A : Type 0} → R → Result A R → R
refusal_or r (Ok a) = r
refusal_or r (Err e) = e

module _ {R : Type 0} where
  module _ {A : Type 0} (a : A) (more : List (R × Bool)) where
    pub past : (rows : List (R × Bool)) → passed rows ≡ Ok tt → decided (rows ++ more) a ≡ decided more a
    past [] e = refl
    past (c ∷ cs) e = go c.1 (past cs) e
      where
        go : (b : Bool) → (passed cs ≡ Ok tt → decided (cs ++ more) a ≡ decided more a)
            → cond b (Err c.0) (passed cs) ≡ Ok tt → cond b (Err c.0) (decided (cs ++ more) a) ≡ decided more a
        go true later q = absurd (true≢false (sym (ap is_ok q)))
        go false later q = later q

    pub stays : (rows : List (R × Bool)) (r : R) → passed rows ≡ Err r → decided (rows ++ more) a ≡ Err r
    stays [] r e = absurd (true≢false (ap is_ok e))
    stays (c ∷ cs) r e = go c.1 (stays cs r) e
      where
        go : (b : Bool) → (passed cs ≡ Err r → decided (cs ++ more) a ≡ Err r)
            → cond b (Err c.0) (passed cs) ≡ Err r → cond b (Err c.0) (decided (cs ++ more) a) ≡ Err r
        go true later q = ap (λ e. Err e) (ap (refusal_or r) q)
        go false later q = later q

  -- ---- A loop over the pieces of a table: of those below m no check applies
  module _ (f : ℕ → List (R × Bool)) where
    pub one_more : (m : ℕ) → passed (pieces m f) ≡ Ok tt → passed (f m) ≡ Ok tt → passed (pieces (m + 1) f) ≡ Ok tt
    unfolding pieces
    one_more m e h = rw add-one (past {A = ⊤} tt (f m) (pieces m f) e ∙ h)

    pub stopped : (n m : ℕ) (r : R) → m < n → passed (pieces m f) ≡ Ok tt → passed (f m) ≡ Err r → passed (pieces n f) ≡ Err r
    stopped n m r l e h =
        let split = pieces_split f n m l in
        rw split.1 (past {A = ⊤} tt (f m ++ split.0) (pieces m f) e ∙ stays {A = ⊤} tt split.0 (f m) r h)

  -- ---- No check applies: one above others, of two tables, and of pieces
  pub past_check : (r : R) (b : Bool) (rest : Result ⊤ R) → (cond b (Err r) rest ≡ Ok tt) ↔ ((b ≡ false) × (rest ≡ Ok tt))
  past_check r true rest = (λ e. absurd (true≢false (sym (ap is_ok e))), λ h. absurd (true≢false h.0))
  past_check r false rest = (λ e. (refl, e), λ h. h.1)

  pub none_of_both : (rows more : List (R × Bool)) → (passed (rows ++ more) ≡ Ok tt) ↔ ((passed rows ≡ Ok tt) × (passed more ≡ Ok tt))
  none_of_both [] more = (λ e. (refl, e), λ h. h.1)
  none_of_both (c ∷ cs) more = go c.1 (none_of_both cs more)
    where
      go : (b : Bool) → ((passed (cs ++ more) ≡ Ok tt) ↔ ((passed cs ≡ Ok tt) × (passed more ≡ Ok tt)))
          → (cond b (Err c.0) (passed (cs ++ more)) ≡ Ok tt) ↔ ((cond b (Err c.0) (passed cs) ≡ Ok tt) × (passed more ≡ Ok tt))
      go true later = (λ e. absurd (true≢false (sym (ap is_ok e))), λ h. absurd (true≢false (sym (ap is_ok h.0))))
      go false later = later

  pub none_of_pieces : (f : ℕ → List (R × Bool)) (n : ℕ) → (passed (pieces n f) ≡ Ok tt) ↔ ((m : ℕ) → m < n → passed (f m) ≡ Ok tt)
  unfolding pieces
  none_of_pieces f zero = (λ e m h. absurd (not-suc-le-zero h), λ h. refl)
  none_of_pieces f (suc n) =
      let both = none_of_both (pieces n f) (f n) in
      let below = none_of_pieces f n in (
        λ e m h. ⊎_elim (λ q. rw q (both.0 e).1) (λ l. below.0 (both.0 e).0 m l) (eq-or-lt_of_le (le_of_suc-le-suc h)),
        λ h. both.1 (below.1 (λ m l. h m (omega arith)), h n (omega arith)),
      )

  -- where none applies it gives a
  pub decided_ok : {A : Type 0} (a x : A) (rows : List (R × Bool)) → decided rows a ≡ Ok x → x ≡ a
  decided_ok a x [] e = sym (ap (λ r. result_unwrap_or r a) e)
  decided_ok a x (c ∷ cs) e = go c.1 (decided_ok a x cs) e
    where
      go : (b : Bool) → (decided cs a ≡ Ok x → x ≡ a) → cond b (Err c.0) (decided cs a) ≡ Ok x → x ≡ a
      go true later q = absurd (true≢false (sym (ap is_ok q)))
      go false later q = later q
