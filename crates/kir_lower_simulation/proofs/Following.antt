-- The lines of every statement, list and switch do what their runs do, where the heads of loops do for no move.
use Rattle.std.proofs.Common.{ℕ, suc, ◌+◌, Option, refl, true, false}
use Rattle.std.proofs.Common.{Bool as Test}
use Rattle.std.specs.Prelude.{◌&&◌}
use Rattle.wg_num.specs.declared.types.IntType.TheVariants.{Int}
use Rattle.cl_model.specs.Task.{Nth, Chosen, Other, Arm, Body, Item as ProgramItem}
use Rattle.cl_model.specs.Tree.{Expression, Statement, Do, Declare, Fill, Block, If, Loop, Switch, Break, Continue}
use Rattle.cl_model.specs.Tree.{Return, Barrier, Statements, empty, also, Arms, no_arm, arm}
use Rattle.cl_model.specs.Valid.{Scope, scope_after}
use Rattle.kir.specs.declared.line.Atom.{Atom}
use Rattle.kir.specs.declared.line.Atom.TheVariants.{Cell as CellAtom}
use Rattle.kir.specs.Steps.{Item}
use Rattle.kir_lower.specs.Made.{Made, next_cell}
use Rattle.kir_lower.specs.Ways.{way_out, declares}
use Rattle.kir_lower.specs.Code.{Calls, expression_code, is_guarded, statement_code, list_code}
use Rattle.kir_lower_shape.specs.Marks.{Way, further, in_turn}
use Rattle.kir_lower_shape.specs.CodeMarks.{CallMarks}
use Rattle.kir_lower_simulation.specs.Setting.{Setting, Activation}
use Rattle.kir_lower_simulation.specs.Held.{IsFixedAtom, IsWithin, Apart}
use Rattle.kir_lower_simulation.specs.Facts.{Rules}
use Rattle.kir_lower_simulation.specs.Ready.{IsUnderWay}
use Rattle.kir_lower_simulation.specs.Bodies.{IsBody, ReadyStatement, ReadyList, ReadyArms}
use Rattle.kir_lower_simulation.proofs.Expressions.{AreCalls}
use Rattle.kir_lower_simulation.proofs.Containing.{block_part, if_chosen, if_other, list_first, list_rest}
use Rattle.kir_lower_simulation.proofs.Statements.{StatementFollows, ListFollows, do_follows, declare_follows}
use Rattle.kir_lower_simulation.proofs.Statements.{fill_follows, block_follows, if_follows, break_follows}
use Rattle.kir_lower_simulation.proofs.Statements.{continue_follows, return_follows, barrier_follows}
use Rattle.kir_lower_simulation.proofs.Lists.{list_ends, also_follows}
use Rattle.kir_lower_simulation.proofs.Turning.{HeadFollows, loop_parts, any_head, loop_follows}
use Rattle.kir_lower_simulation.proofs.Arming.{arm_body, arm_rest}
use Rattle.kir_lower_simulation.proofs.Switches.{ArmsFollow, arm_made, arms_end, arm_follows}
use Rattle.kir_lower_simulation.proofs.Choosing.{switch_parts, chosen_fixed, chosen_apart, switch_follows}

module _ (S : Setting) (G : ℕ → Item → ProgramItem → Type 0) (R : Rules S G) (C : Activation) (calls : Calls)
    (marks : CallMarks) (under : IsUnderWay S C) (is_body : IsBody S C) (all : AreCalls S G R C calls marks) where
  -- at the head of each loop the program's item follows, for so many moves
  abbrev pub Heads : ℕ → Type 0
  Heads n =
      (scope : Scope) (inner : IsWithin S C scope) (cell : Option ℕ) (exit : ℕ) (way : Way) (site : ℕ) (first : Test)
      (test step : Option Expression) (body : Statement) (m : Made)
      → ReadyStatement S C calls scope cell exit way (Loop site first test step body) m
      → HeadFollows S G R C calls marks under is_body all scope inner cell exit way site first test step body m
      (way_out true true body) (way_out false false body) n

  module _ (heads : Heads 0) where
    mutual
      pub statement_follows : (s : Statement) (scope : Scope) (cell : Option ℕ) (exit : ℕ) (way : Way) (m : Made) →
          ReadyStatement S C calls scope cell exit way s m →
          StatementFollows S G R C calls marks scope cell exit way s m
      statement_follows (Do e) scope cell exit way m r =
          do_follows S G R C calls marks under is_body all scope cell exit way e m r
      statement_follows (Declare x value) scope cell exit way m r =
          declare_follows S G R C calls marks under is_body all scope cell exit way x value m r
      statement_follows (Fill site array values) scope cell exit way m r =
          fill_follows S G R C calls marks under is_body all scope cell exit way site array values m r
      statement_follows (Block list) scope cell exit way m r =
          block_follows S G R C calls marks under is_body all scope cell exit way list m r
          (list_follows list scope cell exit way 0 false m (block_part S C calls all.grows all.adds scope cell
          exit way list m r))
      statement_follows (If site test chosen other) scope cell exit way m r =
          if_follows S G R C calls marks under is_body all scope cell exit way site test chosen other m r
          (list_follows chosen scope cell exit (further way Chosen) 0 false (expression_code calls C.here test m).made
          (if_chosen S C calls all.grows all.adds scope cell exit way site test chosen other m r))
          (list_follows other scope cell exit (further way Other) 0 false
          (list_code calls C.here exit false chosen (expression_code calls C.here test m).made).made
          (if_other S C calls all.grows all.adds scope cell exit way site test chosen other m r))
      statement_follows (Loop site first test step body) scope cell exit way m r =
          loop_follows S G R C calls marks under is_body all scope r.inner cell exit way site first test step body m r
          (statement_follows body scope _ _ (in_turn way Body) _ (loop_parts S G R C calls marks under is_body all
          scope r.inner cell exit way site first test step body m r).body_part)
          (heads scope r.inner cell exit way site first test step body m r)
      statement_follows (Switch site value arms) scope cell exit way m r =
          switch_follows S G R C under is_body calls marks all scope r.inner cell exit way site value arms m r
          (arms_follow arms scope _ _ way site _ _ 0 _ (switch_parts S G R C under is_body calls marks all scope
          r.inner cell exit way site value arms m r).arms_part
          (chosen_fixed S G R C under is_body calls marks all scope r.inner cell exit way site value arms m r) refl
          (chosen_apart S G R C under is_body calls marks all scope r.inner cell exit way site value arms m r))
      statement_follows (Break site) scope cell exit way m r =
          break_follows S G R C calls marks under is_body all scope cell exit way site m r
      statement_follows (Continue site) scope cell exit way m r =
          continue_follows S G R C calls marks under is_body all scope cell exit way site m r
      statement_follows (Return site value) scope cell exit way m r =
          return_follows S G R C calls marks under is_body all scope cell exit way site value m r
      statement_follows (Barrier site) scope cell exit way m r =
          barrier_follows S G R C calls marks under is_body all scope cell exit way site m r

      pub list_follows : (list : Statements) (scope : Scope) (cell : Option ℕ) (exit : ℕ) (way : Way) (first : ℕ)
          (guarded : Test) (m : Made) → ReadyList S C calls scope cell exit way first guarded list m
          → ListFollows S G R C calls marks scope cell exit way first guarded list m
      list_follows empty scope cell exit way first guarded m r =
          list_ends S G R C calls marks under is_body all scope cell exit way first guarded m
      list_follows (also s rest) scope cell exit way first guarded m r =
          also_follows S G R C calls marks under is_body all scope cell exit way first guarded s rest m r
          (statement_follows s scope cell exit (further way (Nth first)) m
          (list_first S C calls all.grows all.adds scope cell exit way first guarded s rest m r))
          (list_follows rest (scope_after scope s) cell exit way (suc first)
          (is_guarded (guarded && declares s) (way_out true true s) guarded)
          (statement_code calls C.here exit s m).made (list_rest S C calls all.grows all.adds scope cell exit
          way first guarded s rest m r))

      arms_follow : (arms : Arms) (scope : Scope) (cell : Option ℕ) (exit : ℕ) (way : Way) (site chosen : ℕ)
          (fallen : Atom) (first : ℕ) (m : Made) →
          ReadyArms S C calls scope cell exit way site (CellAtom chosen) fallen first arms m
          → IsFixedAtom S C.low (next_cell m) (CellAtom chosen) Int → IsFixedAtom S C.low (next_cell m) fallen Int →
          Apart cell chosen → ArmsFollow S G R C calls marks scope cell exit way site chosen fallen first arms m
      arms_follow no_arm scope cell exit way site chosen fallen first m r fc ff apart_ =
          arms_end S G R C calls marks under is_body all scope cell exit way site chosen fallen first m
      arms_follow (arm labels other body rest) scope cell exit way site chosen fallen first m r fc ff apart_ =
          let f = arm_made S G R C calls marks under is_body all scope cell exit way site chosen fallen first labels
          other body rest m r fc ff apart_ in
          arm_follows S G R C calls marks under is_body all scope cell exit way site chosen fallen first labels other
          body rest m r fc ff apart_
          (list_follows body scope cell exit (further way (Arm first)) 0 false _
          (arm_body S C calls all.grows all.adds scope cell exit way site (CellAtom chosen) fallen first labels
          other body rest m r))
          (arms_follow rest scope cell exit way site chosen _ (first + 1) _
          (arm_rest S C calls all.grows all.adds scope cell exit way site (CellAtom chosen) fallen first labels
          other body rest m r) f.1 f.2 apart_)

    -- so they do for any number of moves
    pub heads_follow : (n : ℕ) → Heads n
    heads_follow n scope inner cell exit way site first test step body m r =
        let P =
        loop_parts S G R C calls marks under is_body all scope inner cell exit way site first test step body m r in
        any_head S G R C calls marks under is_body all scope inner cell exit way site first test step body m
        (way_out true true body) (way_out false false body) P
        (statement_follows body scope _ _ (in_turn way Body) _ P.body_part)
        (heads scope inner cell exit way site first test step body m r) n
