-- Which condition is the first that stands on a launch.
use Rattle.std.proofs.Common.{◌≡◌, ℕ, zero, suc, ◌<◌, ◌==◌, Bool, true, false, not, List, [], ◌∷◌, length, map}
use Rattle.std.proofs.Common.{get_or, Option, Some, None, refl, sym, ◌∙◌, ap, subst, arith}
use Rattle.cl_model.specs.declared.launch.Launch.{Launch as Bindings}
use Rattle.std.specs.List.{list_any}
use Rattle.launch_file.specs.declared.text.BufferText.{BufferText}
use Rattle.launch_file.specs.declared.refusal.Refusal.{Refusal}
use Rattle.launch_file.specs.declared.refusal.Refusal.TheVariants as refusal
use Rattle.launch_file.specs.Refusals.{Condition, when, first_of}
use Rattle.launch_file.specs.Texts.{Part}
use Rattle.launch_file.specs.Binding as spec

-- where none of five stands, what comes behind them decides
behind_five : (a b c d e : Bool) (n m k j i : Refusal) (later : List Condition) →
    first_of (when n a ∷ when m b ∷ when k c ∷ when j d ∷ when i e ∷ []) ≡ None →
    first_of (when n a ∷ when m b ∷ when k c ∷ when j d ∷ when i e ∷ later) ≡ first_of later
behind_five false false false false false n m k j i later none = refl
behind_five true b c d e n m k j i later none = absurd (let never : ⊥ = cc in never)
behind_five false true c d e n m k j i later none = absurd (let never : ⊥ = cc in never)
behind_five false false true d e n m k j i later none = absurd (let never : ⊥ = cc in never)
behind_five false false false true e n m k j i later none = absurd (let never : ⊥ = cc in never)
behind_five false false false false true n m k j i later none = absurd (let never : ⊥ = cc in never)

module _ (needs : spec.Needs) (buffers : List BufferText) (part : Part) (sizes : spec.sizes_wrong part ≡ false)
    (arguments : spec.arguments_refusal needs buffers part ≡ None)
    (size : spec.is_another_size (spec.three_sizes part.local) needs.required ≡ false) where
  later : List Condition
  later = when refusal.RequiredSize (spec.is_another_size (spec.three_sizes part.local) needs.required) ∷
      when refusal.LocalMemory (spec.local_wrong needs part) ∷ when refusal.Buffers (spec.buffers_wrong buffers) ∷ []

  decided : spec.launch_refusal needs buffers part ≡ first_of (when refusal.LocalMemory (spec.local_wrong needs part) ∷
      when refusal.Buffers (spec.buffers_wrong buffers) ∷ [])
  unfolding later
  decided =
      let first : spec.launch_refusal needs buffers part ≡
      first_of (spec.argument_conditions needs buffers part later) = rw sizes refl in
      let second : first_of later ≡ first_of (when refusal.LocalMemory (spec.local_wrong needs part) ∷
      when refusal.Buffers (spec.buffers_wrong buffers) ∷ []) = rw size refl in
      first ∙ (behind_five (not (length part.args == length needs.kinds))
      (spec.some_pair spec.kind_wrong needs.kinds part.args)
      (spec.some_pair spec.value_wrong needs.kinds part.args) (list_any (spec.is_unlisted buffers) part.args)
      (spec.some_pair (spec.is_shared needs.kinds part.args) needs.kinds part.args) refusal.ArgumentCount
      refusal.ArgumentKind refusal.ValueOutOfRange refusal.UnknownBuffer refusal.ConstantBufferShared later arguments ∙
      second)

  pub local_stands : spec.local_wrong needs part ≡ true →
      spec.launch_refusal needs buffers part ≡ Some refusal.LocalMemory
  local_stands stands = decided ∙ rw stands refl

  pub buffers_stand : spec.local_wrong needs part ≡ false → spec.buffers_wrong buffers ≡ true →
      spec.launch_refusal needs buffers part ≡ Some refusal.Buffers
  buffers_stand local stands = decided ∙ rw (local, stands) refl

  pub none_stands : spec.local_wrong needs part ≡ false → spec.buffers_wrong buffers ≡ false →
      spec.launch_refusal needs buffers part ≡ None
  none_stands local stands = decided ∙ rw (local, stands) refl

-- one launch of a list, by its view
pub part_there : {X Y : Type 0} (view : X → Y) (xs : List X) (k : ℕ) (x : X) (d : Y) → k < length xs →
    x ≡ get_or xs k x → view x ≡ get_or (map view xs) k d
part_there view [] k x d lt is = absurd (omega arith)
part_there view (y ∷ ys) zero x d lt is = ap view is
part_there view (y ∷ ys) (suc k) x d lt is = part_there view ys k x d (omega arith) is

-- the first condition on the same launch is the same
pub same_refusal : (needs : spec.Needs) (buffers others : List BufferText) (part other : Part) (o o' : Option Refusal) →
    buffers ≡ others → part ≡ other → o ≡ o' → spec.launch_refusal needs buffers part ≡ o →
    spec.launch_refusal needs others other ≡ o'
same_refusal needs buffers others part other o o' e f g is =
    sym (ap (λ (b : List BufferText). spec.launch_refusal needs b other) e) ∙
    (sym (ap (λ (p : Part). spec.launch_refusal needs buffers p) f) ∙ (is ∙ g))

-- and so is the launch that they give
pub same_launch : (turns : ℕ) (buffers others : List BufferText) (part other : Part) (launch : Bindings) →
    buffers ≡ others → part ≡ other → spec.IsLaunchOf turns buffers part launch →
    spec.IsLaunchOf turns others other launch
same_launch turns buffers others part other launch e f is =
    subst (λ (b : List BufferText). spec.IsLaunchOf turns b other launch) e
    (subst (λ (p : Part). spec.IsLaunchOf turns buffers p launch) f is)
