-- What `x && y` gives in the code, by the arm that was taken. Assumes nothing.
use mathlib.Core.Path.{◌≡◌, sym, ap, ◌∙◌}
use mathlib.Core.Bool.{Bool, true, false, ◌&&◌}

pub and_taken : {x y a b : Bool} → x ≡ a → x ≡ true → y ≡ b → y ≡ a && b
and_taken {b} p t q = q ∙ sym (ap (λ (s : Bool). s && b) (sym p ∙ t))

pub and_left : {x a : Bool} (b : Bool) → x ≡ a → x ≡ false → x ≡ a && b
and_left b p f = f ∙ sym (ap (λ (s : Bool). s && b) (sym p ∙ f))
