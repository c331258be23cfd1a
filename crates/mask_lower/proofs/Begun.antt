-- The lines of a region that is not the rest of a loop are lowered as any lines.
use Rattle.std.proofs.Common.{◌≡◌, ℕ, List, [], ◌∷◌, refl}
use Rattle.std.proofs.lemmas.Bool.{true≢false}
use Rattle.std.specs.Prelude.{◌&&◌}
use Rattle.std.specs.Prelude.{Bool as Test, true, false}
use Rattle.kir.specs.Listed.{lines_of}
use Rattle.kir.specs.declared.line.Line.{Line}
use Rattle.kir.specs.declared.line.Line.TheVariants as line
use Rattle.mask_lower.specs.declared.registers.Free.{Free}
use Rattle.mask_lower.specs.Forms.{is_one_loop}
use Rattle.mask_lower.specs.Registers.{Frame}
use Rattle.mask_lower.specs.Lowered.{begun_code, lines_code}

pub begun_as_lines : (f : Frame) (at : ℕ) (next : Free) (voted : Test) (items : List Line) →
    (voted && is_one_loop items) ≡ false →
    begun_code f at next voted (lines_of items) ≡ lines_code f 0 1 at next (lines_of items)
begun_as_lines f at next false items e = refl
begun_as_lines f at next true [] e = refl
begun_as_lines f at next true (line.Set to w ∷ items) e = refl
begun_as_lines f at next true (line.Load site to element root index ∷ items) e = refl
begun_as_lines f at next true (line.Store site element root index from ∷ items) e = refl
begun_as_lines f at next true (line.Clear array ∷ items) e = refl
begun_as_lines f at next true (line.If' site test m chosen n other ∷ items) e = refl
begun_as_lines f at next true (line.Barrier site ∷ items) e = refl
begun_as_lines f at next true (line.Loop' site test_first m test answer n body ∷ []) e = absurd (true≢false e)
begun_as_lines f at next true (line.Loop' site test_first m test answer n body ∷ line.Set to w ∷ items) e = refl
begun_as_lines f at next true
    (line.Loop' site test_first m test answer n body ∷ line.Load s to element root index ∷ items) e = refl
begun_as_lines f at next true
    (line.Loop' site test_first m test answer n body ∷ line.Store s element root index from ∷ items) e = refl
begun_as_lines f at next true (line.Loop' site test_first m test answer n body ∷ line.Clear array ∷ items) e = refl
begun_as_lines f at next true
    (line.Loop' site test_first m test answer n body ∷ line.If' s t i chosen j other ∷ items) e = refl
begun_as_lines f at next true
    (line.Loop' site test_first m test answer n body ∷ line.Loop' s first i t a j inner ∷ items) e = refl
begun_as_lines f at next true (line.Loop' site test_first m test answer n body ∷ line.Barrier s ∷ items) e = refl
