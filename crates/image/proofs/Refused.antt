-- A table of checks by the numbers of their refusals: the first that applies, or zero.
--     number_told             a refusal's number is a byte and not 0, which stands for no refusal
--     Proper, first_fits      a table of such numbers: so its refusal is a byte
--     first_past, first_stays     a piece of which no row applies, and one of which some does
--     numbered_proper         the table of checks is one
--     past_row                no row applies
--     none_applies            no row applies
--     by_number_is, none_by_number       its refusal is the number of what the checks give: 0 where none applies
--     none_of_both            no row of two tables applies
--     proper_append, proper_pieces, one_more, none_of_pieces, stopped      a table that is made of pieces
--     proper_blocks, none_in_blocks      the same of the blocks of an image
--     refusals_are            and its table, row by row
-- Assumes nothing.
use Rattle.std.proofs.Common.{◌≡◌, ℕ, zero, suc, ◌+◌, ◌^◌, ◌<◌, Bool, true, false, cond, not, eqb, ◌≢◌, ◌↔◌, List, [], ◌∷◌, ◌++◌, length, sym, refl, ap, ◌∙◌, true≢false, add-one, arith, lit<, eqb-true, Ok, Err, is_ok}
use borrow.Author.Tests.{eqb-false}
use Rattle.chip.specs.Answer.{decided, passed, first_of}
use Rattle.image.specs.declared.refusal.Refusal.{Refusal}
use Rattle.image.specs.declared.refusal.Refusal.TheVariants.{Count, Length, Check, Fields}
use Rattle.image.specs.Refusals.{number, numbered, by_number}
use Rattle.image.specs.Image.{blocks, across, misfit, checks_at, checks, refusals_at, refusals}
use Rattle.pieces.specs.Pieces.{pieces}
use Rattle.std.proofs.lemmas.List.{map-append}
use Rattle.image.proofs.Checked.{pieces_split}
use Rattle.image.proofs.Checked as any

pub number_told : (r : Refusal) → (number r ≢ 0) × (number r < 2 ^ 8)
number_told Count = (λ e. omega arith, lit< tt)
number_told Length = (λ e. omega arith, lit< tt)
number_told Check = (λ e. omega arith, lit< tt)
number_told Fields = (λ e. omega arith, lit< tt)

abbrev pub Proper : List (ℕ × Bool) → Type 0
Proper [] = Unit
Proper (row ∷ rows) = (row.0 ≢ 0) × (row.0 < 2 ^ 8) × Proper rows

pub first_fits : (rows : List (ℕ × Bool)) → Proper rows → first_of rows < 2 ^ 8
first_fits [] p = lit< tt
first_fits (row ∷ rows) p = go row.1 (first_fits rows p.2)
  where
    go : (b : Bool) → first_of rows < 2 ^ 8 → cond b row.0 (first_of rows) < 2 ^ 8
    go true later = p.1
    go false later = later

pub first_past : (rows more : List (ℕ × Bool)) → Proper rows → first_of rows ≡ 0 → first_of (rows ++ more) ≡ first_of more
first_past [] more p e = refl
first_past (row ∷ rows) more p e = go row.1 (first_past rows more p.2) e
  where
    go : (b : Bool) → (first_of rows ≡ 0 → first_of (rows ++ more) ≡ first_of more)
        → cond b row.0 (first_of rows) ≡ 0 → cond b row.0 (first_of (rows ++ more)) ≡ first_of more
    go true later q = absurd (p.0 q)
    go false later q = later q

pub first_stays : (rows more : List (ℕ × Bool)) → first_of rows ≢ 0 → first_of (rows ++ more) ≡ first_of rows
first_stays [] more n = absurd (n refl)
first_stays (row ∷ rows) more n = go row.1 (first_stays rows more) n
  where
    go : (b : Bool) → (first_of rows ≢ 0 → first_of (rows ++ more) ≡ first_of rows)
        → cond b row.0 (first_of rows) ≢ 0 → cond b row.0 (first_of (rows ++ more)) ≡ cond b row.0 (first_of rows)
    go true later q = refl
    go false later q = later q

pub numbered_proper : (rows : List (Refusal × Bool)) → Proper (numbered rows)
numbered_proper [] = tt
numbered_proper (c ∷ cs) = let told = number_told c.0 in (told.0, told.1, numbered_proper cs)

pub past_row : (number : ℕ) (b : Bool) (rest : ℕ) → number ≢ 0 → (cond b number rest ≡ 0) ↔ ((b ≡ false) × (rest ≡ 0))
past_row number true rest n = (λ e. absurd (n e), λ h. absurd (true≢false h.0))
past_row number false rest n = (λ e. (refl, e), λ h. h.1)

pub by_number_is : {A : Type 0} (a : A) (rows : List (Refusal × Bool)) → by_number (decided rows a) ≡ first_of (numbered rows)
by_number_is a [] = refl
by_number_is a (c ∷ cs) = go c.1 (by_number_is a cs)
  where
    go : (b : Bool) → by_number (decided cs a) ≡ first_of (numbered cs)
        → by_number (cond b (Err c.0) (decided cs a)) ≡ cond b (number c.0) (first_of (numbered cs))
    go true later = refl
    go false later = later

pub none_applies : (rows : List (ℕ × Bool)) → Proper rows → (first_of rows ≡ 0) ↔ (passed rows ≡ Ok tt)
none_applies [] p = (λ e. refl, λ e. refl)
none_applies (row ∷ rows) p = go row.1 (none_applies rows p.2)
  where
    go : (b : Bool) → ((first_of rows ≡ 0) ↔ (passed rows ≡ Ok tt))
        → (cond b row.0 (first_of rows) ≡ 0) ↔ (cond b (Err row.0) (passed rows) ≡ Ok tt)
    go true later = (λ e. absurd (p.0 e), λ e. absurd (true≢false (sym (ap is_ok e))))
    go false later = later

pub none_by_number : (rows : List (Refusal × Bool)) → (first_of (numbered rows) ≡ 0) ↔ (passed rows ≡ Ok tt)
none_by_number [] = (λ e. refl, λ e. refl)
none_by_number (c ∷ cs) = go c.1 (none_by_number cs)
  where
    go : (b : Bool) → ((first_of (numbered cs) ≡ 0) ↔ (passed cs ≡ Ok tt))
        → (cond b (number c.0) (first_of (numbered cs)) ≡ 0) ↔ (cond b (Err c.0) (passed cs) ≡ Ok tt)
    go true later = (λ e. absurd ((number_told c.0).0 e), λ e. absurd (true≢false (sym (ap is_ok e))))
    go false later = later

-- ---- a table of numbers that is made of pieces
pub proper_append : (rows more : List (ℕ × Bool)) → Proper rows → Proper more → Proper (rows ++ more)
proper_append [] more p q = q
proper_append (row ∷ rows) more p q = (p.0, p.1, proper_append rows more p.2 q)

pub proper_pieces : (n : ℕ) (f : ℕ → List (ℕ × Bool)) → ((m : ℕ) → Proper (f m)) → Proper (pieces n f)
unfolding pieces
proper_pieces zero f h = tt
proper_pieces (suc n) f h = proper_append (pieces n f) (f n) (proper_pieces n f h) (h n)

pub none_of_both : (rows more : List (ℕ × Bool)) → Proper rows → (first_of (rows ++ more) ≡ 0) ↔ ((first_of rows ≡ 0) × (first_of more ≡ 0))
none_of_both rows more p = (λ e. go (eqb (first_of rows) 0) refl e, λ h. first_past rows more p h.0 ∙ h.1)
  where
    go : (t : Bool) → eqb (first_of rows) 0 ≡ t → first_of (rows ++ more) ≡ 0 → (first_of rows ≡ 0) × (first_of more ≡ 0)
    go true q e = let z = eqb-true (first_of rows) 0 q in (z, sym (first_past rows more p z) ∙ e)
    go false q e = let n = eqb-false (first_of rows) 0 q in absurd (n (sym (first_stays rows more n) ∙ e))

pub one_more : (f : ℕ → List (ℕ × Bool)) → ((m : ℕ) → Proper (f m)) → (m : ℕ) → first_of (pieces m f) ≡ 0 → first_of (f m) ≡ 0
    → first_of (pieces (m + 1) f) ≡ 0
unfolding pieces
one_more f p m e h = rw add-one (first_past (pieces m f) (f m) (proper_pieces m f p) e ∙ h)

pub none_of_pieces : (f : ℕ → List (ℕ × Bool)) → ((m : ℕ) → Proper (f m)) → (n : ℕ)
    → (first_of (pieces n f) ≡ 0) ↔ ((m : ℕ) → m < n → first_of (f m) ≡ 0)
none_of_pieces f p n =
    let whole = none_applies (pieces n f) (proper_pieces n f p) in
    let each = any.none_of_pieces f n in (
      λ e m h. (none_applies (f m) (p m)).1 (each.0 (whole.0 e) m h),
      λ h. whole.1 (each.1 (λ m l. (none_applies (f m) (p m)).0 (h m l))),
    )

pub stopped : (f : ℕ → List (ℕ × Bool)) → ((m : ℕ) → Proper (f m)) → (n m : ℕ) → m < n → first_of (pieces m f) ≡ 0 → first_of (f m) ≢ 0
    → first_of (f m) ≡ first_of (pieces n f)
stopped f p n m l e h =
    let split = pieces_split f n m l in
    sym (rw split.1 (first_past (pieces m f) (f m ++ split.0) (proper_pieces m f p) e ∙ first_stays (f m) split.0 h))

-- ---- the checks of the blocks, by number
numbered_pieces : (n : ℕ) (f : ℕ → List (Refusal × Bool)) → numbered (pieces n f) ≡ pieces n (λ m. numbered (f m))
unfolding pieces
numbered_pieces zero f = refl
numbered_pieces (suc n) f = rw map-append (ap (λ (l : List (ℕ × Bool)). l ++ numbered (f n)) (numbered_pieces n f))

pub proper_blocks : (image : List ℕ) → Proper (pieces (blocks image) (refusals_at image))
proper_blocks image = proper_pieces (blocks image) (refusals_at image) (λ m. numbered_proper (checks_at image m))

pub none_in_blocks : (image : List ℕ) → passed (pieces (blocks image) (checks_at image)) ≡ Ok tt
    → first_of (pieces (blocks image) (refusals_at image)) ≡ 0
none_in_blocks image e =
    rw (← numbered_pieces (blocks image) (checks_at image)) ((none_by_number (pieces (blocks image) (checks_at image))).1 e)

pub refusals_are : (image : List ℕ) → refusals image
    ≡ (8, misfit (length image)) ∷ pieces (blocks image) (refusals_at image) ++ (10, not (across image)) ∷ []
unfolding refusals checks
refusals_are image = rw (map-append, numbered_pieces) refl
