-- `descriptors_of` meets its contract: 32 descriptors are read of each block. Assumes nothing.
use Rattle.std.proofs.Common.{◌≡◌, ℕ, ◌*◌, ◌/◌, ◌%◌, cond, ltb, length, get_or, refl, ◌∙◌, arith, rules, tests}
use Rattle.std.proofs.lemmas.Bool.Decides.{nat_tests}
use Rattle.descriptors.specs.Descriptor.{zeros}
use Rattle.descriptors.specs.declared.descriptor.Descriptor.{Descriptor}
use Rattle.chip.specs.Reset.{nothing}
use Rattle.image.specs.Block.{descriptor_of}
use Rattle.image.specs.Image.{block_at}
use Rattle.image.proofs.Made.{made_of, made_is}
use Rattle.image.proofs.read.descriptors_of.Goals as goal

-- a place is one of n units' where its unit is one of them
place_of : (i n : ℕ) → ltb (i / 32) n ≡ ltb i (32 * n)
place_of i n = grind (arith, nat_tests)

pub returns : goal.returns
returns c =
    let bs = c.args.blocks.now in
    let read : ℕ → Descriptor = λ i. descriptor_of (i % 32) (block_at bs (i / 32)) in
    let descriptor : ℕ → Descriptor = λ i. cond (ltb (i / 32) (length bs)) (read i) (get_or nothing.descriptors i zeros) in
    made_is zeros (32 * length bs) read _ nothing.descriptors c.from_fn.ensures.items.long
    (λ i l. made_of _ _ descriptor (λ i y q k. search (rules, tests)) _ zeros _ c.from_fn.ensures.items i l ∙ rw (place_of i (length bs)) refl)
