-- At most one outcome meets the promise of each public function: a claim for each, over the promise that the
-- checker itself proves of it. In the order of the crates and of their source files; docs/PROMISES.md has a row
-- for each. `.ci/claims write` writes the lists from the sources, and the gate sees that they are current.
-- imports, by .ci/claims write
-- masks
use Rattle.masks.proofs.U8Field.bits as U8FieldBits
use Rattle.masks.proofs.U16Field.bits as U16FieldBits
use Rattle.masks.proofs.agree as agree
use Rattle.masks.proofs.clash as clash
use Rattle.masks.proofs.gate as gate
-- pieces
use Rattle.pieces.proofs.join as join
use Rattle.pieces.proofs.within as within
use Rattle.pieces.proofs.put_zeros as put_zeros
-- text
use Rattle.text.proofs.digits.decimal as digits_decimal
use Rattle.text.proofs.digits.hex as digits_hex
use Rattle.text.proofs.digits.digit as digits_digit
use Rattle.text.proofs.digits.byte_of as digits_byte_of
use Rattle.text.proofs.digits.hex_digit as digits_hex_digit
use Rattle.text.proofs.Text.new as TextNew
use Rattle.text.proofs.Text.is_empty as TextIsEmpty
use Rattle.text.proofs.Text.held as TextHeld
use Rattle.text.proofs.Text.push as TextPush
use Rattle.text.proofs.Text.with_bytes as TextWithBytes
use Rattle.text.proofs.Text.of as TextOf
use Rattle.text.proofs.Text.with_hex as TextWithHex
use Rattle.text.proofs.Text.with_number as TextWithNumber
-- descriptors
use Rattle.descriptors.proofs.descriptor.Descriptor.enabled as DescriptorEnabled
use Rattle.descriptors.proofs.descriptor.Descriptor.protected as DescriptorProtected
use Rattle.descriptors.proofs.descriptor.Descriptor.pending as DescriptorPending
use Rattle.descriptors.proofs.descriptor.Descriptor.with_ssr as DescriptorWithSsr
use Rattle.descriptors.proofs.descriptor.Descriptor.match_answer as DescriptorMatchAnswer
use Rattle.descriptors.proofs.descriptor.Descriptor.physical_page as DescriptorPhysicalPage
use Rattle.descriptors.proofs.descriptor.Descriptor.bytes as DescriptorBytes
use Rattle.descriptors.proofs.descriptor.Descriptor.collides as DescriptorCollides
use Rattle.descriptors.proofs.status.clean as status_clean
use Rattle.descriptors.proofs.status.used as status_used
use Rattle.descriptors.proofs.status.modified as status_modified
use Rattle.descriptors.proofs.status.disabled as status_disabled
use Rattle.descriptors.proofs.status.rewritten as status_rewritten
-- registers
use Rattle.registers.proofs.shared.Gsr.faulted as GsrFaulted
use Rattle.registers.proofs.shared.GsrFromU8.from as GsrFromU8From
use Rattle.registers.proofs.shared.U8FromGsr.from as U8FromGsrFrom
use Rattle.registers.proofs.shared.Shared.entry as SharedEntry
use Rattle.registers.proofs.shared.Shared.with_entry as SharedWithEntry
use Rattle.registers.proofs.shared.Shared.with_gsr as SharedWithGsr
use Rattle.registers.proofs.shared.Shared.with_ivr as SharedWithIvr
use Rattle.registers.proofs.unit.rdp_of as unit_rdp_of
use Rattle.registers.proofs.unit.l_of as unit_l_of
use Rattle.registers.proofs.unit.rw_of as unit_rw_of
use Rattle.registers.proofs.unit.accumulator_of as unit_accumulator_of
use Rattle.registers.proofs.unit.Unit.report as UnitReport
use Rattle.registers.proofs.unit.Unit.take as UnitTake
use Rattle.registers.proofs.unit.Unit.translated as UnitTranslated
use Rattle.registers.proofs.unit.Unit.change as UnitChange
use Rattle.registers.proofs.unit.Unit.consistent as UnitConsistent
use Rattle.registers.proofs.unit.Unit.values as UnitValues
use Rattle.registers.proofs.unit.Unit.marks as UnitMarks
use Rattle.registers.proofs.unit.Unit.held_lsr as UnitHeldLsr
use Rattle.registers.proofs.unit.Unit.lsr as UnitLsr
use Rattle.registers.proofs.unit.Unit.ac as UnitAc
use Rattle.registers.proofs.unit.Unit.page as UnitPage
use Rattle.registers.proofs.unit.Unit.segment as UnitSegment
-- chip
use Rattle.chip.proofs.answer.Refusal.number as RefusalNumber
use Rattle.chip.proofs.answer.Answer.values as AnswerValues
use Rattle.chip.proofs.answer.refuse as answer_refuse
use Rattle.chip.proofs.answer.miscounted as answer_miscounted
use Rattle.chip.proofs.system.System.granted as SystemGranted
use Rattle.chip.proofs.system.System.perform as SystemPerform
use Rattle.chip.proofs.system.System.nothing as SystemNothing
use Rattle.chip.proofs.system.System.present as SystemPresent
-- block
use Rattle.block.proofs.read.read as block_read
use Rattle.block.proofs.write.write as block_write
-- image
use Rattle.image.proofs.read.restore as read_restore
use Rattle.image.proofs.refusal.Refusal.number as ImageRefusalNumber
use Rattle.image.proofs.write.save as write_save
-- cleftromi
use Rattle.cleftromi.proofs.cleftromi_start as cleftromi_start
use Rattle.cleftromi.proofs.cleftromi_reset as cleftromi_reset
use Rattle.cleftromi.proofs.cleftromi_access as cleftromi_access
use Rattle.cleftromi.proofs.cleftromi_register as cleftromi_register
use Rattle.cleftromi.proofs.cleftromi_acknowledge as cleftromi_acknowledge
use Rattle.cleftromi.proofs.cleftromi_save as cleftromi_save
use Rattle.cleftromi.proofs.cleftromi_restore as cleftromi_restore
-- lines
use Rattle.lines.proofs.turn.answer as turn_answer
-- end
use Rattle.demands.specs.Promises.{AtMostOne, AtMostOneBehind}

-- a claim over a function with a type parameter is one for every type, and every `impl` of its bound
pub record Outcomes : Type 2 where
  -- fields, by .ci/claims write
  -- masks
  pub U8FieldBits : AtMostOne U8FieldBits.Kinds.ps U8FieldBits.Kinds.r U8FieldBits.Reads.Post
  pub U16FieldBits : AtMostOne U16FieldBits.Kinds.ps U16FieldBits.Kinds.r U16FieldBits.Reads.Post
  pub agree : (g1 g2 g3 g4 g5 g6 g7 : _) → AtMostOne (agree.Kinds.ps g1 g2 g3) (agree.Kinds.r g1 g2 g3) (agree.Reads.Post g1 g2 g3 g4 g5 g6 g7)
  pub clash : (g1 g2 g3 g4 g5 g6 g7 : _) → AtMostOne (clash.Kinds.ps g1 g2 g3) (clash.Kinds.r g1 g2 g3) (clash.Reads.Post g1 g2 g3 g4 g5 g6 g7)
  pub gate : AtMostOne gate.Kinds.ps gate.Kinds.r gate.Reads.Post
  -- pieces
  pub join : AtMostOne join.Kinds.ps join.Kinds.r join.Reads.Post
  pub within : AtMostOne within.Kinds.ps within.Kinds.r within.Reads.Post
  pub put_zeros : AtMostOne put_zeros.Kinds.ps put_zeros.Kinds.r put_zeros.Reads.Post
  -- text
  pub digits_decimal : AtMostOne digits_decimal.Kinds.ps digits_decimal.Kinds.r digits_decimal.Reads.Post
  pub digits_hex : AtMostOne digits_hex.Kinds.ps digits_hex.Kinds.r digits_hex.Reads.Post
  pub digits_digit : AtMostOne digits_digit.Kinds.ps digits_digit.Kinds.r digits_digit.Reads.Post
  pub digits_byte_of : AtMostOne digits_byte_of.Kinds.ps digits_byte_of.Kinds.r digits_byte_of.Reads.Post
  pub digits_hex_digit : AtMostOne digits_hex_digit.Kinds.ps digits_hex_digit.Kinds.r digits_hex_digit.Reads.Post
  pub TextNew : AtMostOne TextNew.Kinds.ps TextNew.Kinds.r TextNew.Reads.Post
  pub TextIsEmpty : AtMostOne TextIsEmpty.Kinds.ps TextIsEmpty.Kinds.r TextIsEmpty.Reads.Post
  pub TextHeld : AtMostOneBehind TextHeld.Kinds.ps TextHeld.Kinds.r (λ κs x. x.now) TextHeld.Reads.Post
  pub TextPush : AtMostOne TextPush.Kinds.ps TextPush.Kinds.r TextPush.Reads.Post
  pub TextWithBytes : AtMostOne TextWithBytes.Kinds.ps TextWithBytes.Kinds.r TextWithBytes.Reads.Post
  pub TextOf : AtMostOne TextOf.Kinds.ps TextOf.Kinds.r TextOf.Reads.Post
  pub TextWithHex : AtMostOne TextWithHex.Kinds.ps TextWithHex.Kinds.r TextWithHex.Reads.Post
  pub TextWithNumber : AtMostOne TextWithNumber.Kinds.ps TextWithNumber.Kinds.r TextWithNumber.Reads.Post
  -- descriptors
  pub DescriptorEnabled : AtMostOne DescriptorEnabled.Kinds.ps DescriptorEnabled.Kinds.r DescriptorEnabled.Reads.Post
  pub DescriptorProtected : AtMostOne DescriptorProtected.Kinds.ps DescriptorProtected.Kinds.r DescriptorProtected.Reads.Post
  pub DescriptorPending : AtMostOne DescriptorPending.Kinds.ps DescriptorPending.Kinds.r DescriptorPending.Reads.Post
  pub DescriptorWithSsr : AtMostOne DescriptorWithSsr.Kinds.ps DescriptorWithSsr.Kinds.r DescriptorWithSsr.Reads.Post
  pub DescriptorMatchAnswer : AtMostOne DescriptorMatchAnswer.Kinds.ps DescriptorMatchAnswer.Kinds.r DescriptorMatchAnswer.Reads.Post
  pub DescriptorPhysicalPage : AtMostOne DescriptorPhysicalPage.Kinds.ps DescriptorPhysicalPage.Kinds.r DescriptorPhysicalPage.Reads.Post
  pub DescriptorBytes : AtMostOne DescriptorBytes.Kinds.ps DescriptorBytes.Kinds.r DescriptorBytes.Reads.Post
  pub DescriptorCollides : AtMostOne DescriptorCollides.Kinds.ps DescriptorCollides.Kinds.r DescriptorCollides.Reads.Post
  pub status_clean : AtMostOne status_clean.Kinds.ps status_clean.Kinds.r status_clean.Reads.Post
  pub status_used : AtMostOne status_used.Kinds.ps status_used.Kinds.r status_used.Reads.Post
  pub status_modified : AtMostOne status_modified.Kinds.ps status_modified.Kinds.r status_modified.Reads.Post
  pub status_disabled : AtMostOne status_disabled.Kinds.ps status_disabled.Kinds.r status_disabled.Reads.Post
  pub status_rewritten : AtMostOne status_rewritten.Kinds.ps status_rewritten.Kinds.r status_rewritten.Reads.Post
  -- registers
  pub GsrFaulted : AtMostOne GsrFaulted.Kinds.ps GsrFaulted.Kinds.r GsrFaulted.Reads.Post
  pub GsrFromU8From : AtMostOne GsrFromU8From.Kinds.ps GsrFromU8From.Kinds.r GsrFromU8From.Reads.Post
  pub U8FromGsrFrom : AtMostOne U8FromGsrFrom.Kinds.ps U8FromGsrFrom.Kinds.r U8FromGsrFrom.Reads.Post
  pub SharedEntry : AtMostOne SharedEntry.Kinds.ps SharedEntry.Kinds.r SharedEntry.Reads.Post
  pub SharedWithEntry : AtMostOne SharedWithEntry.Kinds.ps SharedWithEntry.Kinds.r SharedWithEntry.Reads.Post
  pub SharedWithGsr : AtMostOne SharedWithGsr.Kinds.ps SharedWithGsr.Kinds.r SharedWithGsr.Reads.Post
  pub SharedWithIvr : AtMostOne SharedWithIvr.Kinds.ps SharedWithIvr.Kinds.r SharedWithIvr.Reads.Post
  pub unit_rdp_of : AtMostOne unit_rdp_of.Kinds.ps unit_rdp_of.Kinds.r unit_rdp_of.Reads.Post
  pub unit_l_of : AtMostOne unit_l_of.Kinds.ps unit_l_of.Kinds.r unit_l_of.Reads.Post
  pub unit_rw_of : AtMostOne unit_rw_of.Kinds.ps unit_rw_of.Kinds.r unit_rw_of.Reads.Post
  pub unit_accumulator_of : AtMostOne unit_accumulator_of.Kinds.ps unit_accumulator_of.Kinds.r unit_accumulator_of.Reads.Post
  pub UnitReport : AtMostOne UnitReport.Kinds.ps UnitReport.Kinds.r UnitReport.Reads.Post
  pub UnitTake : AtMostOne UnitTake.Kinds.ps UnitTake.Kinds.r UnitTake.Reads.Post
  pub UnitTranslated : AtMostOne UnitTranslated.Kinds.ps UnitTranslated.Kinds.r UnitTranslated.Reads.Post
  pub UnitChange : AtMostOne UnitChange.Kinds.ps UnitChange.Kinds.r UnitChange.Reads.Post
  pub UnitConsistent : AtMostOne UnitConsistent.Kinds.ps UnitConsistent.Kinds.r UnitConsistent.Reads.Post
  pub UnitValues : AtMostOne UnitValues.Kinds.ps UnitValues.Kinds.r UnitValues.Reads.Post
  pub UnitMarks : AtMostOne UnitMarks.Kinds.ps UnitMarks.Kinds.r UnitMarks.Reads.Post
  pub UnitHeldLsr : AtMostOne UnitHeldLsr.Kinds.ps UnitHeldLsr.Kinds.r UnitHeldLsr.Reads.Post
  pub UnitLsr : AtMostOne UnitLsr.Kinds.ps UnitLsr.Kinds.r UnitLsr.Reads.Post
  pub UnitAc : AtMostOne UnitAc.Kinds.ps UnitAc.Kinds.r UnitAc.Reads.Post
  pub UnitPage : AtMostOne UnitPage.Kinds.ps UnitPage.Kinds.r UnitPage.Reads.Post
  pub UnitSegment : AtMostOne UnitSegment.Kinds.ps UnitSegment.Kinds.r UnitSegment.Reads.Post
  -- chip
  pub RefusalNumber : AtMostOne RefusalNumber.Kinds.ps RefusalNumber.Kinds.r RefusalNumber.Reads.Post
  pub AnswerValues : AtMostOne AnswerValues.Kinds.ps AnswerValues.Kinds.r AnswerValues.Reads.Post
  pub answer_refuse : (g1 g2 g3 g4 g5 : _) → AtMostOne (answer_refuse.Kinds.ps g1 g2 g3) (answer_refuse.Kinds.r g1 g2 g3) (answer_refuse.Reads.Post g1 g2 g3 g4 g5)
  pub answer_miscounted : AtMostOne answer_miscounted.Kinds.ps answer_miscounted.Kinds.r answer_miscounted.Reads.Post
  pub SystemGranted : AtMostOne SystemGranted.Kinds.ps SystemGranted.Kinds.r SystemGranted.Reads.Post
  pub SystemPerform : AtMostOne SystemPerform.Kinds.ps SystemPerform.Kinds.r SystemPerform.Reads.Post
  pub SystemNothing : AtMostOne SystemNothing.Kinds.ps SystemNothing.Kinds.r SystemNothing.Reads.Post
  pub SystemPresent : AtMostOne SystemPresent.Kinds.ps SystemPresent.Kinds.r SystemPresent.Reads.Post
  -- block
  pub block_read : AtMostOne block_read.Kinds.ps block_read.Kinds.r block_read.Reads.Post
  pub block_write : AtMostOne block_write.Kinds.ps block_write.Kinds.r block_write.Reads.Post
  -- image
  pub read_restore : AtMostOne read_restore.Kinds.ps read_restore.Kinds.r read_restore.Reads.Post
  pub ImageRefusalNumber : AtMostOne ImageRefusalNumber.Kinds.ps ImageRefusalNumber.Kinds.r ImageRefusalNumber.Reads.Post
  pub write_save : AtMostOne write_save.Kinds.ps write_save.Kinds.r write_save.Reads.Post
  -- cleftromi
  pub cleftromi_start : AtMostOne cleftromi_start.Kinds.ps cleftromi_start.Kinds.r cleftromi_start.Reads.Post
  pub cleftromi_reset : AtMostOne cleftromi_reset.Kinds.ps cleftromi_reset.Kinds.r cleftromi_reset.Reads.Post
  pub cleftromi_access : AtMostOne cleftromi_access.Kinds.ps cleftromi_access.Kinds.r cleftromi_access.Reads.Post
  pub cleftromi_register : AtMostOne cleftromi_register.Kinds.ps cleftromi_register.Kinds.r cleftromi_register.Reads.Post
  pub cleftromi_acknowledge : AtMostOne cleftromi_acknowledge.Kinds.ps cleftromi_acknowledge.Kinds.r cleftromi_acknowledge.Reads.Post
  pub cleftromi_save : AtMostOne cleftromi_save.Kinds.ps cleftromi_save.Kinds.r cleftromi_save.Reads.Post
  pub cleftromi_restore : AtMostOne cleftromi_restore.Kinds.ps cleftromi_restore.Kinds.r cleftromi_restore.Reads.Post
  -- lines
  pub turn_answer : AtMostOne turn_answer.Kinds.ps turn_answer.Kinds.r turn_answer.Reads.Post
  -- end
