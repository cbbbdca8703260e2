-- A promise, as the checker proves it of a function: of its arguments, its result, and what lies behind each `&mut` at exit.
use Rattle.std.specs.Prelude.{ℕ, ◌≡◌, List, [], ◌∷◌}
use contract.Lifetimes.{Lfts, Within}
use denote.Triple.Clauses.{Lasts, at_exit}
use borrow.Fn.Kind.{ParamKind, ResultKind}
use borrow.Fn.Kinds.{Out, Dens, GoodsP, res_t, ended_of, p_num, r_num}
use borrow.Kind.MutSlice.{p_mut_s}
use borrow.Kind.ShrSlice.{p_shr_s}
use borrow.Table.Referent.{rt_f, f_int}
use Rattle.std.specs.Int.{Width, w8, w64}

-- at most one outcome meets a promise: two results, and two last values of what was lent, that both do are equal
abbrev pub AtMostOne : {n : ℕ} (ps : List (ParamKind n)) (r : ResultKind n) → Out n ps r → Type 0
AtMostOne {n} ps r Promise =
    (κs : Lfts n) (a : Dens κs ps) (x y : (res_t r κs).Denot) (v w : Lasts (ended_of n ps r) κs a)
    → Promise κs a x (at_exit (ended_of n ps r) κs a v) → Promise κs a y (at_exit (ended_of n ps r) κs a w)
    → (x ≡ y) × (v ≡ w)

-- the same of a function that lends what it answers: what stands behind two results is equal, wherever they point
abbrev pub AtMostOneBehind : {n : ℕ} {A : Type 0} (ps : List (ParamKind n)) (r : ResultKind n) → ((κs : Lfts n) → (res_t r κs).Denot → A)
    → Out n ps r → Type 0
AtMostOneBehind {n} ps r behind Promise =
    (κs : Lfts n) (a : Dens κs ps) (x y : (res_t r κs).Denot) (v w : Lasts (ended_of n ps r) κs a)
    → Promise κs a x (at_exit (ended_of n ps r) κs a v) → Promise κs a y (at_exit (ended_of n ps r) κs a w)
    → (behind κs x ≡ behind κs y) × (v ≡ w)

-- some outcome meets it, whatever the arguments
abbrev pub AtLeastOne : {n : ℕ} (ps : List (ParamKind n)) (r : ResultKind n) → Out n ps r → Type 0
AtLeastOne {n} ps r Promise =
    (κs : Lfts n) (a : Dens κs ps)
    → (x : (res_t r κs).Denot) × (v : Lasts (ended_of n ps r) κs a) × Promise κs a x (at_exit (ended_of n ps r) κs a v)

-- a call of a function that is lent nothing, with these arguments and this result
abbrev pub Returned : (ps : List (ParamKind 0)) (r : ResultKind 0) → Out 0 ps r → (a : Dens tt ps) → (res_t r tt).Denot → Type 0
Returned ps r Promise a x = (v : Lasts (ended_of 0 ps r) tt a) × Promise tt a x (at_exit (ended_of 0 ps r) tt a v)

-- A parameter of a function for C: lent bytes that it may write, `&mut [u8]`; lent bytes that it may only read, `&[u8]`; or a
-- number. Lent bytes come with a lifetime of their own, by its place in the signature
pub data Parameter (n : ℕ) : Type 0 where
  lent : (j : ℕ) → Within n j → Parameter n
  shown : (j : ℕ) → Within n j → Parameter n
  number : Width → Parameter n

module _ {n : ℕ} where
  abbrev pub kind : Parameter n → ParamKind n
  kind (lent j ok) = p_mut_s (rt_f (f_int w8)) j ok
  kind (shown j ok) = p_shr_s (rt_f (f_int w8)) j ok
  kind (number w) = p_num w

  abbrev pub kinds : List (Parameter n) → List (ParamKind n)
  kinds [] = []
  kinds (p ∷ ps) = kind p ∷ kinds ps

  -- what a call is given: the bytes as it finds them, and the numbers; and what it leaves: the bytes that it may write
  abbrev pub Given : List (Parameter n) → Type 0
  Given [] = Unit
  Given (lent j ok ∷ ps) = List ℕ × Given ps
  Given (shown j ok ∷ ps) = List ℕ × Given ps
  Given (number w ∷ ps) = ℕ × Given ps

  abbrev pub Left : List (Parameter n) → Type 0
  Left [] = Unit
  Left (lent j ok ∷ ps) = List ℕ × Left ps
  Left (shown j ok ∷ ps) = Left ps
  Left (number w ∷ ps) = Left ps

  -- the arguments, where the bytes stand at some places of memory; and their last values
  abbrev pub arguments : (κs : Lfts n) (places : ℕ → (ℕ × ℕ) × ℕ) (ps : List (Parameter n)) → Given ps → Dens κs (kinds ps)
  arguments κs places [] given = tt
  arguments κs places (lent j ok ∷ ps) given =
      (record { ref_ptr = (places j).0; ghost_name = (places j).1; now = given.0 }, arguments κs places ps given.1)
  arguments κs places (shown j ok ∷ ps) given = (record { ref_ptr = (places j).0; now = given.0 }, arguments κs places ps given.1)
  arguments κs places (number w ∷ ps) given = (given.0, arguments κs places ps given.1)

  abbrev pub lasts : (κs : Lfts n) (places : ℕ → (ℕ × ℕ) × ℕ) (ps : List (Parameter n)) (given : Given ps) → Left ps
      → Lasts (ended_of n (kinds ps) (r_num w64)) κs (arguments κs places ps given)
  lasts κs places [] given left = tt
  lasts κs places (lent j ok ∷ ps) given left = (left.0, lasts κs places ps given.1 left.1)
  lasts κs places (shown j ok ∷ ps) given left = (tt, lasts κs places ps given.1 left)
  lasts κs places (number w ∷ ps) given left = (tt, lasts κs places ps given.1 left)

  -- a call of such a function, each argument within its type: it answers and leaves what it promises
  pub record Called (ps : List (Parameter n)) (Promise : Out n (kinds ps) (r_num w64)) (given : Given ps) (answer : ℕ) (left : Left ps) : Type 0 where
    pub lifetimes : Lfts n
    pub places : ℕ → (ℕ × ℕ) × ℕ
    pub within : GoodsP lifetimes (kinds ps) (arguments lifetimes places ps given)
    pub kept : Promise lifetimes (arguments lifetimes places ps given) answer
        (at_exit (ended_of n (kinds ps) (r_num w64)) lifetimes (arguments lifetimes places ps given) (lasts lifetimes places ps given left))
