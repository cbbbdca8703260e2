-- What a callee with no `requires` asks of its caller: nothing. Assumes nothing.
pub free {ℓ ℓ'} : {A : Type ℓ} {B : Type ℓ'} → A → B → Unit {0}
free a b = tt
