-- What is asked of the steps of a statement before its lines run: of a leaf, its shape and its names; that where an
-- element stands is evaluated before its components are loaded or stored.
use Rattle.std.proofs.Common.{◌≡◌, ℕ, ◌≤◌, List, [], ◌∷◌, Some, Bool, true}
use Rattle.wg_num.specs.declared.types.IntType.{IntType}
use Rattle.cl_model.specs.declared.program.Space.{Space}
use Rattle.cl_model.specs.Lists.{IsOneOf}
use Rattle.cl_meaning.specs.declared.kind.Meaning.TheVariants as meanings
use Rattle.cl_meaning.specs.Environment.{Env, meaning_of}
use Rattle.cl_check_sound.specs.Shape.{IsExpression}
use Rattle.cl_short_vec.specs.declared.types.Vector.{Vector}
use Rattle.cl_short_vec.specs.declared.kinds.Reach.TheVariants.{Element}
use Rattle.cl_short_vec.specs.declared.kinds.Kind.TheVariants.{Vectors}
use Rattle.cl_short_vec.specs.Marks.{Mark, kind_at}
use Rattle.cl_short_vec.specs.Nodes.{component_name}
use Rattle.cl_short_vec.specs.Order.{Named, Step, Offset, Number, Copy, Load, Set, Store}
use Rattle.cl_short_vec.specs.Scalar.{scalar}
use Rattle.cl_short_vec_correct.specs.Sources.{is_sourced}
use Rattle.cl_short_vec.proofs.OwnNames.{HasNoBlank}
use Rattle.cl_short_vec_correct.proofs.Sourced.{SourcedMark}

-- an element of a vector type
pub record IsElementMark (m : Mark) : Type 0 where
  pub vector : Vector
  pub space : Space
  pub constant : Bool
  pub is : kind_at m ≡ Vectors vector (Element space constant)

-- a component of that type is visible, by a name that a source may have
pub record ComponentFits (start : Env) (x : Named) (c : ℕ) (of : IntType) : Type 0 where
  pub blank : HasNoBlank x.name
  pub sourced : is_sourced (component_name x.name c) ≡ true
  pub constant : Bool
  pub variable : ℕ
  pub visible : meaning_of start (component_name x.name c) ≡ Some (meanings.Scalar of constant variable)

-- a leaf's step, where `start` is visible at the statement
abbrev pub LeafFits : (start : Env) → Step → Type 0
LeafFits start (Offset m) = IsElementMark m × IsExpression (scalar m) × SourcedMark m
LeafFits start (Number of m) = IsExpression (scalar m) × SourcedMark m
LeafFits start (Copy of x c) = ComponentFits start x c of
LeafFits start (Load m c) = IsElementMark m × (c ≤ 16)
LeafFits start (Set x c j) = ⊥
LeafFits start (Store m c j) = ⊥

-- behind these steps, each load has the offset of its element before it
abbrev pub Ordered : (done steps : List Step) → Type 0
Ordered done [] = Unit {0}
Ordered done (Load m c ∷ ss) = IsOneOf done (Offset m) × Ordered (Load m c ∷ done) ss
Ordered done (s ∷ ss) = Ordered (s ∷ done) ss

-- the steps that are done behind some more
abbrev pub all_done : (steps done : List Step) → List Step
all_done [] done = done
all_done (s ∷ ss) done = all_done ss (s ∷ done)
