-- Writing a slice from the front, part after part.
--     rest         the part from a place on
--     copied_more  a loop that copies a list, one store a turn
--     appended     a part lent to a function that writes its front
--     further, further_zeros, further_copy    the same, for one part after the other
--     replaced    bytes behind what is written that are copied over
--     further_stores    stores behind what is written
--     begun, next, placed, ended    a loop that lends the part from w * m on to a function that writes piece m, or copies piece m there
--     pieces_at    where piece m stands
--     pieces_alike    pieces that are the same one by one
-- Assumes nothing.
use Prim.Native.Nat.{ℕ, zero, suc, ◌+◌, ◌*◌, ◌-◌, ◌<◌, ◌≤◌}
use mathlib.Core.Path.{◌≡◌, refl, ap, ap₂, ◌∙◌}
use mathlib.Core.List.{List, [], ◌∷◌, ◌++◌, append-nil, append_assoc}
use mathlib.Core.Logic.{⊎_elim}
use native.Mathlib.Nat.{le_of_suc-le-suc, not-suc-le-zero, eq-or-lt_of_le}
use native.Mathlib.Numerals.{add-one}
use native.Mathlib.Omega.{arith}
use lib.ListN.{length, take, drop, get_or, set, replicate, length-append, length-take, length-drop, length-replicate, drop_of_length-le}
use lib.Seq.{take_all, take_at, drop_at, drop-drop, sets, sets-eq}
use borrow.Rule.Slice.PartMut.{put_mid, same_len_mid}
use Rattle.pieces.specs.Pieces.{pieces, zeroed}
use Rattle.pieces.proofs.Bytes.{zeroed_front}

module _ {A : Type 0} where
  -- `&s[a..]`
  pub rest : (a : ℕ) (s : List A) → take (length s - a) (drop a s) ≡ drop a s
  rest a s = take_all (length s - a) (drop a s) (simp length-drop (omega arith))

  copied_suc : (n : ℕ) (s e : List A) (d : A) → n < length s → n < length e
      → set (take n s ++ drop n e) n (get_or s n d) ≡ take (suc n) s ++ drop (suc n) e
  copied_suc n [] e d h l = absurd (not-suc-le-zero h)
  copied_suc n (x ∷ s) [] d h l = absurd (not-suc-le-zero l)
  copied_suc zero (x ∷ s) (y ∷ e) d h l = refl
  copied_suc (suc n) (x ∷ s) (y ∷ e) d h l =
      ap (λ (t : List A). x ∷ t) (copied_suc n s e d (le_of_suc-le-suc h) (le_of_suc-le-suc l))

  pub copied_more : (n : ℕ) (s e : List A) (d : A) → n < length s → n < length e
      → set (take n s ++ drop n e) n (get_or s n d) ≡ take (n + 1) s ++ drop (n + 1) e
  copied_more n s e d h l = rw add-one (copied_suc n s e d h l)

  pub appended : (p q e b t : List A) (n k : ℕ) → length p ≡ n → b ≡ p ++ drop n e
      → t ≡ q ++ drop k (take (length b - n) (drop n b)) → put_mid n (length b - n) b t ≡ (p ++ q) ++ drop (n + k) e
  appended p q e b t n k l g h =
      let none : drop (length b - n) (drop n b) ≡ [] = drop_of_length-le (drop n b) {i = length b - n} (simp length-drop (omega arith)) in
      rw (h, none, append-nil, rest n b, g, take_at p (drop n e) n l, drop_at p (drop n e) n l, drop-drop, append_assoc)

-- of b the first n are p, the others are those of e
abbrev pub Front : (p : List ℕ) (n : ℕ) (e b : List ℕ) → Type 0
Front p n e b = (length p ≡ n) × (b ≡ p ++ drop n e)

-- a part from n on, lent to a function that writes the k bytes q
pub further : (p q e b t : List ℕ) (n k m : ℕ) → Front p n e b → length q ≡ k → n + k ≡ m
    → t ≡ q ++ drop k (take (length b - n) (drop n b)) → Front (p ++ q) m e (put_mid n (length b - n) b t)
further p q e b t n k m h l j g =
    (length-append p q ∙ omega (arith, h.0), rw (← j) (appended p q e b t n k h.0 h.1 g))

-- the same, of a part whose first k bytes are made zero
pub further_zeros : (p e b t : List ℕ) (n k m : ℕ) → Front p n e b → m ≤ length e → n + k ≡ m
    → t ≡ zeroed k (take (length b - n) (drop n b)) → Front (p ++ replicate k 0) m e (put_mid n (length b - n) b t)
further_zeros p e b t n k m h l j g =
    let size = simp (length-append, length-drop) at (ap length h.1) in
    let long : k ≤ length (take (length b - n) (drop n b)) = simp (length-take, length-drop) (omega (arith, size, h.0)) in
    further p (replicate k 0) e b t n k m h (length-replicate k 0) j (g ∙ zeroed_front k _ long)

-- the same, of a part that the k bytes x are copied to
pub further_copy : (p x e b t : List ℕ) (n k m : ℕ) → Front p n e b → length x ≡ k → n + k ≡ m
    → t ≡ take (length x) x ++ drop (length x) (take (length b - n) (drop n b)) → Front (p ++ x) m e (put_mid n (length b - n) b t)
further_copy p x e b t n k m h l j g = further p x e b t n k m h l j (g ∙ rw (l, take_all k x (omega (arith, l))))

-- k bytes from n on, which become the k bytes x
pub replaced : (p x e b t : List ℕ) (n k m : ℕ) → Front p n e b → length x ≡ k → n + k ≡ m → t ≡ x → Front (p ++ x) m e (put_mid n k b t)
replaced p x e b t n k m h l j g =
    (length-append p x ∙ omega (arith, h.0), rw (g, h.1, take_at p (drop n e) n h.0, drop_at p (drop n e) n h.0, drop-drop, j, append_assoc))

-- stores from n on, one after the other
pub further_stores : (p vs e b : List ℕ) (n m : ℕ) → Front p n e b → n + length vs ≡ m → m ≤ length e → Front (p ++ vs) m e (sets b n vs)
further_stores p vs e b n m h j l =
    let size = simp (length-append, length-drop) at (ap length h.1) in
    let past : drop (n + length vs) b ≡ drop m e = rw (← drop-drop, h.1, drop_at p (drop n e) n h.0, drop-drop, j) refl in (
      length-append p vs ∙ omega (arith, h.0, j),
      sets-eq vs b n (omega (arith, size, h.0, j)) ∙ rw (past, h.1, take_at p (drop n e) n h.0, append_assoc),
    )

pub length_pieces : (w : ℕ) (f : ℕ → List ℕ) → ((i : ℕ) → length (f i) ≡ w) → (n : ℕ) → length (pieces n f) ≡ w * n
unfolding pieces
length_pieces w f h zero = omega arith
length_pieces w f h (suc n) = length-append (pieces n f) (f n) ∙ omega (arith, length_pieces w f h n, h n)

-- A loop that writes n pieces of w bytes over e: m of them are written, and b is the slice so far
abbrev pub Done : (w : ℕ) (f : ℕ → List ℕ) (n : ℕ) (e b : List ℕ) (m : ℕ) → Type 0
Done w f n e b m = (m ≤ n) × (length b ≡ length e) × (b ≡ pieces m f ++ drop (w * m) e)

pub begun : (w : ℕ) (f : ℕ → List ℕ) (n : ℕ) (e : List ℕ) → Done w f n e e 0
unfolding pieces
begun w f n e = let none : w * 0 ≡ 0 = omega arith in (omega arith, refl, rw none)

pub next : (w : ℕ) (f : ℕ → List ℕ) → ((i : ℕ) → length (f i) ≡ w) → (n : ℕ) (e b t : List ℕ) (m : ℕ) → Done w f n e b m → m < n
    → length t ≡ length (take (length b - w * m) (drop (w * m) b))
    → t ≡ f m ++ drop w (take (length b - w * m) (drop (w * m) b))
    → Done w f n e (put_mid (w * m) (length b - w * m) b t) (m + 1)
unfolding pieces
next w f h n e b t m d l k q =
    let more : w * (m + 1) ≡ w * m + w = omega arith in (
      omega arith,
      same_len_mid (w * m) (length b - w * m) b t k ∙ d.1,
      rw (more, add-one) (appended (pieces m f) (f m) e b t (w * m) w (length_pieces w f h m) d.2 q),
    )

-- the same, where piece m is copied
pub placed : (w : ℕ) (f : ℕ → List ℕ) → ((i : ℕ) → length (f i) ≡ w) → (n : ℕ) (e b t : List ℕ) (m k : ℕ) → k ≡ w → Done w f n e b m → m < n
    → length t ≡ length (take k (drop (w * m) b)) → t ≡ f m → Done w f n e (put_mid (w * m) k b t) (m + 1)
unfolding pieces
placed w f h n e b t m k whole d l g q =
    let more : w * (m + 1) ≡ w * m + w = omega arith in (
      omega arith,
      same_len_mid (w * m) k b t g ∙ d.1,
      rw (whole, more, add-one) (replaced (pieces m f) (f m) e b t (w * m) w (w * m + w) (length_pieces w f h m, d.2) (h m) refl q).1,
    )

pub ended : (w : ℕ) (f : ℕ → List ℕ) (n : ℕ) (e b : List ℕ) (m : ℕ) → Done w f n e b m → n ≤ m → b ≡ pieces n f ++ drop (w * n) e
ended w f n e b m d l = let all : m ≡ n = omega arith in d.2 ∙ rw all

-- piece m stands at w * m
pub pieces_at : (w : ℕ) (f : ℕ → List ℕ) → ((i : ℕ) → length (f i) ≡ w) → (n m : ℕ) (t : List ℕ) → m < n
    → (r : List ℕ) × (drop (w * m) (pieces n f ++ t) ≡ f m ++ r)
unfolding pieces
pieces_at w f h zero m t l = absurd (not-suc-le-zero l)
pieces_at w f h (suc n) m t l =
    ⊎_elim (λ (e : m ≡ n). (t, rw (e, append_assoc) (drop_at (pieces n f) (f n ++ t) (w * n) (length_pieces w f h n))))
    (λ k. let below = pieces_at w f h n m (f n ++ t) k in (below.0, rw append_assoc below.1))
    (eq-or-lt_of_le (le_of_suc-le-suc l))

pub pieces_alike : {A : Type 0} (n : ℕ) (f g : ℕ → List A) → ((m : ℕ) → m < n → f m ≡ g m) → pieces n f ≡ pieces n g
unfolding pieces
pieces_alike zero f g h = refl
pieces_alike {A} (suc n) f g h =
    ap₂ (λ (p q : List A). p ++ q) (pieces_alike n f g (λ m l. h m (omega arith))) (h n (omega arith))
