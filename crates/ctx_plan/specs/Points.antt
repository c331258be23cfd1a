-- The points of a statement: its calls and its barriers, in the order of the text.
use Rattle.std.specs.Prelude.{ℕ, List, [], ◌∷◌, ◌++◌, ◌||◌, slice_index_or}
use Rattle.std.specs.Prelude.{Bool as Test, true, false}
use Rattle.cl_model.specs.declared.program.SwitchArm.{SwitchArm}
use Rattle.cl_model.specs.Tree.{Statement, Do, Declare, Fill, Block, If, Loop, Switch, Break}
use Rattle.cl_model.specs.Tree.{Continue, Return, Barrier, Statements, empty, also, Arms, no_arm, arm}
use Rattle.cl_model.specs.View.{listed_statements}
use Rattle.cl_model.specs.Calls.{CallSite, calls_in, calls_among, calls_in_optional}
use Rattle.ctx_plan.specs.declared.outline.Piece.{Piece}
use Rattle.ctx_plan.specs.declared.outline.Piece.TheVariants as piece

-- pieces, and behind them calls
abbrev pub calls_onto : List CallSite → List Piece → List Piece
calls_onto [] pieces = pieces
calls_onto (c ∷ calls) pieces = calls_onto calls (pieces ++ piece.Calls c.site c.function ∷ [])

abbrev mutual
  -- pieces, and behind them the points of a statement
  pub points_onto : Statement → List Piece → List Piece
  points_onto (Do e) pieces = calls_onto (calls_in e) pieces
  points_onto (Declare x value) pieces = calls_onto (calls_in_optional value) pieces
  points_onto (Fill site array values) pieces = calls_onto (calls_among values) pieces
  points_onto (Block list) pieces = all_onto list pieces
  points_onto (If site test chosen other) pieces = all_onto other (all_onto chosen (calls_onto (calls_in test) pieces))
  points_onto (Loop site test_first test step body) pieces =
      points_onto body (calls_onto (calls_in_optional step) (calls_onto (calls_in_optional test) pieces))
  points_onto (Switch site value arms) pieces = arms_onto arms (calls_onto (calls_in value) pieces)
  points_onto (Break site) pieces = pieces
  points_onto (Continue site) pieces = pieces
  points_onto (Return site value) pieces = calls_onto (calls_in_optional value) pieces
  points_onto (Barrier site) pieces = pieces ++ piece.Cut ∷ []

  pub all_onto : Statements → List Piece → List Piece
  all_onto empty pieces = pieces
  all_onto (also s rest) pieces = all_onto rest (points_onto s pieces)

  pub arms_onto : Arms → List Piece → List Piece
  arms_onto no_arm pieces = pieces
  arms_onto (arm labels other body rest) pieces = arms_onto rest (all_onto body pieces)

-- the entry of a list with this number, false where there is none
abbrev pub entry : List Test → ℕ → Test
entry list n = slice_index_or list n false

-- the point is a barrier, or a call of a function that holds one
abbrev pub point_holds : (inside : ℕ → Test) → Piece → Test
point_holds inside (piece.Declares x) = false
point_holds inside piece.Cut = true
point_holds inside (piece.Calls site function) = inside function
point_holds inside (piece.Block' m row) = false

-- one of the points is
abbrev pub points_hold : (inside : ℕ → Test) → List Piece → Test
points_hold inside [] = false
points_hold inside (p ∷ pieces) = point_holds inside p || points_hold inside pieces
