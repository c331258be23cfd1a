-- What a vector statement sets is worth what the statement says.
use Rattle.std.proofs.Common.{◌≡◌, ℕ, zero, suc, ◌<◌, List, [], ◌∷◌, length, map, Option, None, Some, Bool, true, false}
use Rattle.std.proofs.Common.{if◌then◌else◌, refl, sym, subst, arith}
use Rattle.std.specs.Prelude.{slice_index}
use Rattle.wg_num.specs.declared.types.IntType.{IntType}
use Rattle.wg_num.specs.declared.types.Bin.{Bin}
use Rattle.wg_num.specs.Wrap.{is_bool, IsValue}
use Rattle.cl_model.specs.Lists.{Each}
use Rattle.cl_meaning.specs.Conversions.{is_comparison}
use Rattle.cl_meaning.specs.Environment.{Env}
use Rattle.cl_short_vec.specs.declared.nodes.Span.{Span}
use Rattle.cl_short_vec.specs.Marks.{Mark, tree_at, kind_at}
use Rattle.cl_short_vec.specs.Faults.{components_of}
use Rattle.cl_short_vec.specs.Nodes.{span_of, helper, component_name, helping_component}
use Rattle.cl_short_vec.specs.Order.{Step, Copy, Load, type_in, named_by, is_element_in, loads, copies, old_steps}
use Rattle.cl_short_vec.specs.Order.{steps_of, under}
use Rattle.cl_short_vec.specs.Parts.{Assigned, assigned_by, assigned_part, part_of}
use Rattle.cl_short_vec.specs.Unit.{assigned_of}
use Rattle.cl_short_vec_correct.specs.Emits.{Known}
use Rattle.cl_short_vec_correct.specs.Values.{Leaves, worth_of}
use Rattle.cl_short_vec_correct.proofs.Worths.{set_by, set_worth}
use Rattle.cl_short_vec_correct.proofs.Ready.{Helping}
use Rattle.cl_short_vec_correct.proofs.Trees.{Typed, type_is, GivesBy, component_typed}
use Rattle.cl_short_vec_correct.proofs.Seen.{Seen, joined_seen}
use Rattle.cl_short_vec_correct.proofs.Fitting.{type_at, Within, Fitting}
use Rattle.cl_short_vec_correct.proofs.Components.{Done, All, component_done, component_is}

-- an operator that joins the old components with the value
abbrev pub OperatorFits : Option Bin → IntType → Type 0
OperatorFits None of = Unit {0}
OperatorFits (Some op) of = (is_comparison op ≡ false) × (is_bool of ≡ false)

-- The value is of the type of the components that are set.
pub record AssignedFits (a : Assigned) : Type 0 where
  pub fits : Fitting false a.of a.value
  pub typed : type_at false a.of a.value ≡ a.of
  pub operator : OperatorFits a.operator a.of

-- what holds of the steps for some numbers holds of that for one of them
nth_of : (P : Step → Type 0) (step : ℕ → Step) (cs : List ℕ) (j : ℕ) → Each P (map step cs) → j < length cs →
    P (step (slice_index cs j))
nth_of P step [] j h l = absurd (omega arith)
nth_of P step (c ∷ cs) zero h l = h.0
nth_of P step (c ∷ cs) (suc j) h l = nth_of P step cs j h.1 (omega arith)

module _ (env : Env) (known : List Known) (leaves : Leaves) (no_flags : env.flags ≡ false) where
  -- the old component, where an operator joins it with the value
  abbrev pub OldDone : Option Bin → IntType → Span → (component : ℕ) → Type 0
  OldDone None of s c = Unit {0}
  OldDone (Some op) of s c =
      Helping env known (component_name (helper s) c) of (leaves.component s.first c) ×
      IsValue of (leaves.component s.first c)

  pub old_done : (o : Option Bin) (m : Mark) (cs : List ℕ) (j : ℕ) → All env known leaves no_flags (old_steps o m cs) →
      j < length cs → OldDone o (type_in (kind_at m)) (span_of (tree_at m)) (slice_index cs j)
  old_done None m cs j h l = tt
  old_done (Some op) m cs j h l = by (is_element_in (kind_at m)) h
    where
      by : (b : Bool) → All env known leaves no_flags (if b then loads m cs else
          copies (type_in (kind_at m)) (named_by (tree_at m)) cs) →
          OldDone (Some op) (type_in (kind_at m)) (span_of (tree_at m)) (slice_index cs j)
      by true g = nth_of (Done env known leaves) (Load m) cs j g l
      by false g = nth_of (Done env known leaves) (Copy (type_in (kind_at m)) (named_by (tree_at m))) cs j g l

  -- the value of that number
  pub assigned_typed : (a : Assigned) (j : ℕ) → AssignedFits a →
      All env known leaves no_flags (steps_of a.of a.value) →
      OldDone a.operator a.of a.target (slice_index a.components j) → Within false a.value j →
      Seen env (assigned_part a j) → Typed env known (assigned_part a j) a.of (set_worth a leaves j)
  assigned_typed a j f ready old l = by a.operator f.operator old
    where
      value : Seen env (part_of a.value j) → Typed env known (part_of a.value j) a.of (worth_of leaves a.value j)
      value q = type_is f.typed (component_is env known leaves no_flags false a.of a.value f.fits ready j l q)

      by : (o : Option Bin) → OperatorFits o a.of → OldDone o a.of a.target (slice_index a.components j) →
          Seen env (assigned_by o a j) → Typed env known (assigned_by o a j) a.of (set_by o a leaves j)
      by None g h q = value q
      by (Some op) g h q =
          let c = slice_index a.components j in
          component_typed env known op a.of a.target (helping_component a.target c) (part_of a.value j) a.of
          (leaves.component a.target.first c) (worth_of leaves a.value j) g.1
          (subst (λ b. GivesBy b a.of a.of) (sym g.0) refl)
          (component_done env known leaves no_flags a.of a.target c (leaves.component a.target.first c) h)
          (value (joined_seen env op a.of a.target (helping_component a.target c) (part_of a.value j) q).1)

  -- of an assignment to a vector, whose target is a variable or an element of that type or selected components of one
  pub setting_typed : (o : Option Bin) (target value : Mark) (j : ℕ) → AssignedFits (assigned_of o target value) →
      type_in (kind_at (under target)) ≡ type_in (kind_at target) →
      All env known leaves no_flags (old_steps o (under target) (components_of target)) →
      All env known leaves no_flags (steps_of (type_in (kind_at target)) value) →
      j < length (components_of target) → Within false value j →
      Seen env (assigned_part (assigned_of o target value) j) →
      Typed env known (assigned_part (assigned_of o target value) j) (type_in (kind_at target))
      (set_worth (assigned_of o target value) leaves j)
  setting_typed o target value j f same old ready l w q =
      assigned_typed (assigned_of o target value) j f ready (subst (λ of. OldDone o of
      (span_of (tree_at (under target))) (slice_index (components_of target) j)) same
      (old_done o (under target) (components_of target) j old l)) w q
