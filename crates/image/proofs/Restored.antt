-- What reading an image and writing one give, part by part: the refusal by its number, and the system where there is none.
--     number_counts       a refusal's number is not zero, which stands for none
--     restored_refusal, restored_exactly, restored_system       of a restore
--     saving_refusal, saved_form                                of a save
-- Assumes nothing.
use Rattle.std.proofs.Common.{◌≡◌, ℕ, false, eqb, ◌↔◌, List, [], append-nil, sym, refl, ap, ◌∙◌, ne_eqb, length, Ok}
use Rattle.image.specs.declared.refusal.Refusal.{Refusal}
use Rattle.chip.specs.declared.system.System.{System}
use Rattle.image.specs.Refusals.{number, by_number}
use Rattle.image.specs.Image.{system_of, checks, refusals, refusal, restored, save_checks, saving, saved, form, save_refusal}
use Rattle.image.proofs.Checked.{past, decided_ok}
use Rattle.image.proofs.Refused.{number_told, by_number_is, none_by_number}

pub number_counts : (r : Refusal) → eqb (number r) 0 ≡ false
number_counts r = ne_eqb (number r) 0 (number_told r).0

pub restored_refusal : (image : List ℕ) → by_number (restored image) ≡ refusal image
unfolding restored refusals
restored_refusal image = by_number_is (system_of image) (checks image)

-- refusal 0 means that it is accepted
pub restored_exactly : (image : List ℕ) → (refusal image ≡ 0) ↔ (restored image ≡ Ok (system_of image))
unfolding restored refusals
restored_exactly image = (
  λ e. rw append-nil at (past (system_of image) [] (checks image) ((none_by_number (checks image)).0 e)),
  λ e. sym (restored_refusal image) ∙ ap by_number e,
)

pub restored_system : (image : List ℕ) (s : System) → restored image ≡ Ok s → s ≡ system_of image
unfolding restored
restored_system image s = decided_ok (system_of image) s (checks image)

pub saving_refusal : (bytes : ℕ) (s : System) → by_number (saving bytes s) ≡ save_refusal bytes s
unfolding saving
saving_refusal bytes s = by_number_is tt (save_checks bytes s)

pub saved_form : (image : List ℕ) (s : System) → saving (length image) s ≡ Ok tt → saved image s ≡ form s
unfolding saving saved
saved_form image s e = rw ((none_by_number (save_checks (length image) s)).1 e) refl
