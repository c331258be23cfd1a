-- The outline of a function: where its variables are declared, its cuts, its calls and its blocks.
use Rattle.std.specs.Prelude.{ℕ, zero, suc, List, [], ◌∷◌}
use Rattle.std.specs.Prelude.{Bool as Test, true, false}
use Rattle.cl_model.specs.Tree.{Statement, Do, Declare, Fill, Block, If, Loop, Switch, Break, Continue, Return}
use Rattle.cl_model.specs.Tree.{Barrier, Statements, empty, also, Arms, no_arm, arm, Function}
use Rattle.cl_model.specs.Calls.{CallSite, calls_in, calls_among, calls_in_optional}
use Rattle.kir.specs.Inlined.{holds}
use Rattle.ctx_plan.specs.declared.outline.Piece.{Piece, Row_of-Piece, end_of-Piece, more_of-Piece}
use Rattle.ctx_plan.specs.declared.outline.Piece.TheVariants as piece

-- nothing, or something and the outline behind it
pub data Outline : Type 0 where
  NoPiece : Outline
  -- a declaration; its scope, behind it, is the rest of the block
  DeclaresThen : (x : ℕ) (rest : Outline) → Outline
  -- a cut: a barrier, or the place before or after the test or body of a statement that holds a barrier
  CutThen : (rest : Outline) → Outline
  -- a call, in whose place the block of the called function stands
  CallsThen : (site function : ℕ) (rest : Outline) → Outline
  -- a block, and what stands behind it
  BlockThen : (inner rest : Outline) → Outline

-- calls before an outline
abbrev pub calls_then : List CallSite → Outline → Outline
calls_then [] rest = rest
calls_then (c ∷ calls) rest = CallsThen c.site c.function (calls_then calls rest)

-- a cut, where there is one, before an outline
abbrev pub cut_then : Test → Outline → Outline
cut_then true rest = CutThen rest
cut_then false rest = rest

abbrev mutual
  -- the outline of a statement before another, where `inside` says which functions hold a barrier. A cut before or
  -- after a body stands outside that body
  pub outline_then : (inside : ℕ → Test) → Statement → Outline → Outline
  outline_then inside (Do e) rest = calls_then (calls_in e) rest
  outline_then inside (Declare x value) rest = calls_then (calls_in_optional value) (DeclaresThen x rest)
  outline_then inside (Fill site array values) rest = calls_then (calls_among values) rest
  outline_then inside (Block list) rest = BlockThen (outlines_then inside list NoPiece) rest
  outline_then inside (If site test chosen other) rest =
      let cut = cut_then (holds inside (If site test chosen other)) in
      cut (calls_then (calls_in test) (cut (outlines_then inside chosen (cut (outlines_then inside other (cut rest))))))
  outline_then inside (Loop site true test step body) rest =
      let cut = cut_then (holds inside (Loop site true test step body)) in
      cut (calls_then (calls_in_optional test)
      (cut (calls_then (calls_in_optional step) (cut (outline_then inside body (cut rest))))))
  -- the test of a `do` stands behind its body
  outline_then inside (Loop site false test step body) rest =
      let cut = cut_then (holds inside (Loop site false test step body)) in
      cut (outline_then inside body (cut
      (calls_then (calls_in_optional step) (cut (calls_then (calls_in_optional test) (cut rest))))))
  outline_then inside (Switch site value arms) rest =
      let cut = cut_then (holds inside (Switch site value arms)) in
      cut (calls_then (calls_in value) (cut (outlines_of_arms inside arms (cut rest))))
  outline_then inside (Break site) rest = rest
  outline_then inside (Continue site) rest = rest
  outline_then inside (Return site value) rest = calls_then (calls_in_optional value) rest
  outline_then inside (Barrier site) rest = CutThen rest

  pub outlines_then : (inside : ℕ → Test) → Statements → Outline → Outline
  outlines_then inside empty rest = rest
  outlines_then inside (also s list) rest = outline_then inside s (outlines_then inside list rest)

  pub outlines_of_arms : (inside : ℕ → Test) → Arms → Outline → Outline
  outlines_of_arms inside no_arm rest = rest
  outlines_of_arms inside (arm labels other body arms) rest =
      outlines_then inside body (outlines_of_arms inside arms rest)

-- so many parameters from the one with this number on, which are declared at the start of the body, before an outline
abbrev pub parameters_then : (first count : ℕ) → Outline → Outline
parameters_then first zero rest = rest
parameters_then first (suc count) rest = DeclaresThen first (parameters_then (suc first) count rest)

-- the outline of a function
abbrev pub function_outline : (inside : ℕ → Test) → Function → Outline
function_outline inside f = parameters_then 0 f.parameters (outlines_then inside f.body NoPiece)

-- ---- the plain view of pieces

abbrev mutual
  -- a piece before an outline
  pub piece_then : Piece → Outline → Outline
  piece_then (piece.Declares x) rest = DeclaresThen x rest
  piece_then piece.Cut rest = CutThen rest
  piece_then (piece.Calls site function) rest = CallsThen site function rest
  piece_then (piece.Block' m row) rest = BlockThen (row_outline row) rest

  pub row_outline : {m : _} → Row_of-Piece m → Outline
  row_outline end_of-Piece = NoPiece
  row_outline (more_of-Piece p row) = piece_then p (row_outline row)

-- the pieces of a Vec before an outline
abbrev pub pieces_then : List Piece → Outline → Outline
pieces_then [] rest = rest
pieces_then (p ∷ pieces) rest = piece_then p (pieces_then pieces rest)
