-- The law on components of vector values, whose leaves are in helping variables.
use Rattle.std.specs.Prelude.{◌≡◌, ℕ, ◌<◌, List, [], Some, Bool, true, false}
use Rattle.wg_num.specs.declared.types.IntType.{IntType}
use Rattle.cl_model.specs.Lists.{Each}
use Rattle.cl_model.specs.declared.program.Root.{Root}
use Rattle.cl_tree.specs.Syntax.{Syntax}
use Rattle.cl_meaning.specs.Spelling.{intrinsic_in}
use Rattle.cl_meaning.specs.declared.names.Intrinsic.{Intrinsic}
use Rattle.cl_meaning.specs.declared.kind.Reach.{Reach}
use Rattle.cl_meaning.specs.declared.kind.Kind.TheVariants as kinds
use Rattle.cl_meaning.specs.declared.kind.Meaning.TheVariants as meanings
use Rattle.cl_meaning.specs.declared.kind.Role.TheVariants as roles
use Rattle.cl_meaning.specs.Environment.{Env}
use Rattle.cl_meaning.specs.Kinds.{Callee, known, callee_of}
use Rattle.cl_meaning.specs.Visible.{kind_of}
use Rattle.cl_meaning.specs.Faults.{Asked}
use Rattle.cl_check_sound.specs.Shape.{IsExpressionOf}
use Rattle.cl_check_sound.specs.Sound.{SoundTree}
use Rattle.cl_short_vec.specs.declared.kinds.Reach.TheVariants.{Element}
use Rattle.cl_short_vec.specs.declared.kinds.Kind as vectors
use Rattle.cl_short_vec.specs.declared.kinds.Kind.TheVariants.{Vectors}
use Rattle.cl_short_vec.specs.declared.roles.Role as vector_roles
use Rattle.cl_short_vec.specs.Kinds.{Names, is_vector}
use Rattle.cl_short_vec.specs.Marks.{Mark, tree_at, kind_at, marked}
use Rattle.cl_short_vec.specs.Faults.{refusals}
use Rattle.cl_short_vec.specs.Nodes.{span_of, component_name, helper}
use Rattle.cl_short_vec.specs.Order.{Step, Offset, Number, Copy, Load, Set, Store, count_in, steps_in}
use Rattle.cl_short_vec.specs.Parts.{width_of, part_in}
use Rattle.cl_short_vec_faults.specs.PlainForm.{plain_of}
use Rattle.cl_short_vec_faults.specs.Plainly.{meant_by, NoPoint, Plainly}

-- ---- helping variables

-- the name stands for a number
abbrev pub StandsForNumber : Env → List ℕ → Type 0
StandsForNumber env q = (of : IntType) × (fixed : Bool) × (meant_by env q ≡ Some (meanings.Scalar of fixed 0))

-- the name stands for a pointer to numbers, into the space of an element
abbrev pub StandsForPointer : vectors.Kind → Env → List ℕ → Type 0
StandsForPointer (Vectors v (Element s c)) env q =
    (r : Root) × (fixed : Bool) × (meant_by env q ≡ Some (meanings.Pointer s v.of c r fixed 0))
StandsForPointer k env q = Unit {0}

-- what a step declares is there
abbrev pub HelpedBy : Env → Step → Type 0
HelpedBy form (Offset m) = StandsForPointer (kind_at m) form (helper (span_of (tree_at m)))
HelpedBy form (Number of m) = StandsForNumber form (helper (span_of (tree_at m)))
HelpedBy form (Copy of x c) = StandsForNumber form (component_name (helper x.span) c)
HelpedBy form (Load m c) = StandsForNumber form (component_name (helper (span_of (tree_at m))) c)
HelpedBy form (Set x c j) = Unit {0}
HelpedBy form (Store m c j) = Unit {0}

-- ---- the law

-- no function of a unit has a name that is known without a declaration
abbrev pub KnownAlone : Env → Type 0
KnownAlone env = (q : List ℕ) (i : Intrinsic) (c : Callee) → intrinsic_in q ≡ Some i → callee_of env q ≡ Some c →
    c ≡ known i

-- A tree is at fault at no node, and is a number.
pub record SoundNumber (asked : Asked) (form : Env) (t : Syntax) : Type 0 where
  pub of : IntType
  pub reached : Reach
  pub sound : SoundTree asked form roles.Other t
  pub kind : kind_of form t ≡ Some (kinds.Number of reached)

-- a component that an operand has, or items of a list where `listed` says so; a number has each
abbrev pub HasPart : (listed : Bool) → Mark → ℕ → Type 0
HasPart true m c = c < width_of m
HasPart false m c = is_vector (kind_at m) ≡ true → c < count_in (kind_at m)

-- Where no node of the plain form of a vector value is at fault, and the helping variables of its leaves are there, no
-- node of a component of it is at fault, and it is a number.
abbrev pub PartsFollow : Type 0
PartsFollow = (asked : Asked) (names : Names) (plain form : Env) (role : vector_roles.Role) (listed : Bool)
    (of : IntType) (t : Syntax) → IsExpressionOf true t → NoPoint t → Plainly names plain form → KnownAlone plain →
    refusals role (marked names t) ≡ [] → SoundTree asked plain roles.Other (plain_of t) →
    Each (HelpedBy form) (steps_in listed of (marked names t)) → (c : ℕ) → HasPart listed (marked names t) c →
    SoundNumber asked form (part_in listed (marked names t) c)
