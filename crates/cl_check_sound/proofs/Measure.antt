-- What a typed expression holds, as one sum: its nodes, its sites, its calls and its variables, each with a weight.
use Rattle.std.proofs.Common.{◌≡◌, ℕ, ◌+◌, ◌*◌, ◌≤◌, None, Some, Bool, true, false, if◌then◌else◌, arith}
use Rattle.wg_num.specs.declared.types.IntType.{IntType}
use Rattle.wg_num.specs.declared.types.Bin.{Bin}
use Rattle.wg_num.specs.Types.{same_type}
use Rattle.cl_model.specs.Tree as tree
use Rattle.cl_model.specs.Tree.{Action, Expression, Expressions, Apply, Update, Choose, Call, none, more, single}
use Rattle.cl_meaning.specs.Typed.{What, nothing, value, target, offset, values, barrier, fence, lines, statement}
use Rattle.cl_meaning.specs.Typed.{labelled, function, functions, variable, element, Piece}
use Rattle.cl_meaning.specs.Expressions.{read, way, type_in, convert, operand, moved, moved_by, assigned, updated}

-- the weight of each node, and what a site, a call of a function and a variable weigh beside it
pub record Weights : Type 0 where
  pub plain : ℕ
  pub own : ℕ → ℕ
  pub called : ℕ → ℕ
  pub named : ℕ → ℕ

abbrev pub action_measure : Weights → Action → ℕ
action_measure m (tree.Variable x) = m.plain + m.named x
action_measure m (tree.Set x) = m.plain + m.named x
action_measure m (tree.Change x op of back old) = m.plain + m.named x
action_measure m (tree.Load site t root) = m.plain + m.own site
action_measure m (tree.Store site t root) = m.plain + m.own site
action_measure m (tree.Literal v of) = m.plain
action_measure m (tree.Unary op of) = m.plain
action_measure m (tree.Binary op of) = m.plain
action_measure m (tree.Builtin g of) = m.plain
action_measure m (tree.Convert to) = m.plain
action_measure m (tree.Ask what) = m.plain
action_measure m tree.Second = m.plain
action_measure m tree.Truth = m.plain
action_measure m (tree.Decided answer) = m.plain

abbrev mutual
  pub measure : Weights → Expression → ℕ
  measure m (Apply action operands) = action_measure m action + measures m operands
  measure m (Update site t root op of back old i v) = (m.plain + m.own site) + (measure m i + measure m v)
  measure m (Choose site test chosen other) =
      (m.plain + m.own site) + (measure m test + (measure m chosen + measure m other))
  measure m (Call site g roots arguments) = (m.plain + (m.own site + m.called g)) + measures m arguments

  pub measures : Weights → Expressions → ℕ
  measures m none = 0
  measures m (more e rest) = measure m e + measures m rest

-- a variable that can be assigned weighs nothing beside its node
abbrev pub TargetFree : Weights → What → Type 0
TargetFree m (target (variable x)) = m.named x ≡ 0
TargetFree m w = Unit {0}

-- the same, a barrier weighs its node and its site, and there is no list
abbrev pub Free : Weights → ℕ → ℕ → What → Type 0
Free m b u (target (variable x)) = m.named x ≡ 0
Free m b u (barrier site) = (m.plain + m.own site) + (b + 4 * m.plain) ≤ u
Free m b u (values es) = ⊥
Free m b u w = Unit {0}

pub target_free : (m : Weights) (b u : ℕ) (w : What) → Free m b u w → TargetFree m w
target_free m b u (target (variable x)) h = h
target_free m b u (target (element s t r i)) h = tt
target_free m b u w h = tt

pub free_wider : (m : Weights) (b u v : ℕ) (w : What) → u ≤ v → Free m b u w → Free m b v w
free_wider m b u v (target (variable x)) l h = h
free_wider m b u v (barrier site) l h = omega arith
free_wider m b u v (values es) l h = h
free_wider m b u v (target (element s t r i)) l h = tt
free_wider m b u v w l h = tt

-- ---- single steps

pub convert_small : (m : Weights) (to from : IntType) (e : Expression) →
    measure m (convert to from e) ≤ m.plain + measure m e
convert_small m to from e = by (same_type to from)
  where
    by : (b : Bool) → measure m (if b then e else Apply (tree.Convert to) (single e)) ≤ m.plain + measure m e
    by true = omega arith
    by false = omega arith

pub operand_small : (m : Weights) (to : IntType) (a : Piece) →
    measure m (operand to a) ≤ m.plain + measure m (read a.what)
operand_small m to a = convert_small m to (type_in a.kind) (read a.what)

pub moved_small : (m : Weights) (w : What) (i : Expression) →
    measure m (moved (way w) i) ≤ m.plain + (measure m (read w) + measure m i)
moved_small m (offset None) i = omega arith
moved_small m (offset (Some e)) i = omega arith
moved_small m nothing i = omega arith
moved_small m (value e) i = omega arith
moved_small m (target p) i = omega arith
moved_small m (values es) i = omega arith
moved_small m (barrier site) i = omega arith
moved_small m fence i = omega arith
moved_small m (lines l) i = omega arith
moved_small m (statement s) i = omega arith
moved_small m (labelled ls o s) i = omega arith
moved_small m (function g) i = omega arith
moved_small m (functions gs) i = omega arith

pub moved_by_small : (m : Weights) (i : Expression) (w : What) →
    measure m (moved_by i (way w)) ≤ m.plain + (measure m (read w) + measure m i)
moved_by_small m i (offset None) = omega arith
moved_by_small m i (offset (Some e)) = omega arith
moved_by_small m i nothing = omega arith
moved_by_small m i (value e) = omega arith
moved_by_small m i (target p) = omega arith
moved_by_small m i (values es) = omega arith
moved_by_small m i (barrier site) = omega arith
moved_by_small m i fence = omega arith
moved_by_small m i (lines l) = omega arith
moved_by_small m i (statement s) = omega arith
moved_by_small m i (labelled ls o s) = omega arith
moved_by_small m i (function g) = omega arith
moved_by_small m i (functions gs) = omega arith

-- the offset that leads on
pub way_small : (m : Weights) (w : What) → measure m (read (offset (way w))) ≤ measure m (read w)
way_small m (offset o) = omega arith
way_small m nothing = omega arith
way_small m (value e) = omega arith
way_small m (target p) = omega arith
way_small m (values es) = omega arith
way_small m (barrier site) = omega arith
way_small m fence = omega arith
way_small m (lines l) = omega arith
way_small m (statement s) = omega arith
way_small m (labelled ls o s) = omega arith
way_small m (function g) = omega arith
way_small m (functions gs) = omega arith

-- a target assigned
pub assigned_small : (m : Weights) (w : What) (v : Expression) →
    measure m (read (assigned w v)) ≤ m.plain + (measure m (read w) + measure m v)
assigned_small m (target (variable x)) v = omega arith
assigned_small m (target (element s t r i)) v = omega arith
assigned_small m nothing v = omega arith
assigned_small m (value e) v = omega arith
assigned_small m (offset o) v = omega arith
assigned_small m (values es) v = omega arith
assigned_small m (barrier site) v = omega arith
assigned_small m fence v = omega arith
assigned_small m (lines l) v = omega arith
assigned_small m (statement s) v = omega arith
assigned_small m (labelled ls o s) v = omega arith
assigned_small m (function g) v = omega arith
assigned_small m (functions gs) v = omega arith

pub assigned_free : (m : Weights) (w : What) (v : Expression) → (b u : ℕ) → Free m b u (assigned w v)
assigned_free m (target (variable x)) v b u = tt
assigned_free m (target (element s t r i)) v b u = tt
assigned_free m w v b u = tt

pub updated_small : (m : Weights) (w : What) (op : Bin) (of back : IntType) (old : Bool) (v : Expression) →
    TargetFree m w → measure m (read (updated w op of back old v)) ≤ m.plain + (measure m (read w) + measure m v)
updated_small m (target (variable x)) op of back old v h = omega arith
updated_small m (target (element s t r i)) op of back old v h = omega arith
updated_small m nothing op of back old v h = omega arith
updated_small m (value e) op of back old v h = omega arith
updated_small m (offset o) op of back old v h = omega arith
updated_small m (values es) op of back old v h = omega arith
updated_small m (barrier site) op of back old v h = omega arith
updated_small m fence op of back old v h = omega arith
updated_small m (lines l) op of back old v h = omega arith
updated_small m (statement s) op of back old v h = omega arith
updated_small m (labelled ls o s) op of back old v h = omega arith
updated_small m (function g) op of back old v h = omega arith
updated_small m (functions gs) op of back old v h = omega arith

pub updated_free : (m : Weights) (w : What) (op : Bin) (of back : IntType) (old : Bool) (v : Expression) → (b u : ℕ) →
    Free m b u (updated w op of back old v)
updated_free m (target (variable x)) op of back old v b u = tt
updated_free m (target (element s t r i)) op of back old v b u = tt
updated_free m w op of back old v b u = tt
