-- What is visible at a node of the plain form of a unit, and at what stands for that node in the unit without vectors.
use Rattle.std.specs.Prelude.{◌≡◌, ℕ, ◌<◌, ◌≤◌, nat_eq, List, length, Option, None, Some}
use Rattle.std.specs.Prelude.{Bool, false}
use Rattle.std.specs.List.{list_any}
use Rattle.cl_model.specs.declared.program.Space.{Space}
use Rattle.cl_model.specs.declared.program.Root.{Root}
use Rattle.cl_tree.specs.declared.tree.Form.{Form}
use Rattle.cl_tree.specs.declared.tree.Form.TheVariants as forms
use Rattle.cl_tree.specs.Syntax.{Syntax, node, Forest, none, more}
use Rattle.cl_meaning.specs.Spelling.{name_in}
use Rattle.cl_meaning.specs.declared.kind.Each.TheVariants as each
use Rattle.cl_meaning.specs.declared.kind.Reach.{Reach}
use Rattle.cl_meaning.specs.declared.kind.Kind.{Kind}
use Rattle.cl_meaning.specs.declared.kind.Kind.TheVariants as kinds
use Rattle.cl_meaning.specs.declared.kind.Meaning.{Meaning}
use Rattle.cl_meaning.specs.declared.kind.Meaning.TheVariants as meanings
use Rattle.cl_meaning.specs.Environment.{Env, meaning_of}
use Rattle.cl_meaning.specs.Kinds.{on_one, kind_of_meaning}
use Rattle.cl_short_vec.specs.declared.types.Vector.{Vector}
use Rattle.cl_short_vec.specs.declared.kinds.Reach.TheVariants.{Variable}
use Rattle.cl_short_vec.specs.declared.kinds.Kind as vectors
use Rattle.cl_short_vec.specs.declared.kinds.Kind.TheVariants.{Vectors, Pointer, Other}
use Rattle.cl_short_vec.specs.Kinds.{Names}
use Rattle.cl_short_vec.specs.Nodes.{component_name}

-- ---- names of a source

-- some byte of a name is a point; in the names of a source none is
abbrev pub has_point : List ℕ → Bool
has_point name = list_any (λ b. nat_eq b 46) name

abbrev pub NoPointBy : Form → List ℕ → Type 0
NoPointBy forms.VariableNode w = has_point (name_in w) ≡ false
NoPointBy forms.CallNode w = has_point (name_in w) ≡ false
NoPointBy form w = Unit {0}

-- no variable and no function that a tree names has a point in its name
abbrev mutual
  pub NoPoint : Syntax → Type 0
  NoPoint (node form w f l parts) = NoPointBy form w × NoPoints parts

  pub NoPoints : Forest → Type 0
  NoPoints none = Unit {0}
  NoPoints (more p ps) = NoPoint p × NoPoints ps

-- ---- what a name stands for

-- what a name stands for, but for the number of a variable
abbrev pub numberless : Meaning → Meaning
numberless (meanings.Scalar t c x) = meanings.Scalar t c 0
numberless (meanings.Pointer s e c r fixed x) = meanings.Pointer s e c r fixed 0
numberless m = m

abbrev pub unnumbered : Option Meaning → Option Meaning
unnumbered None = None
unnumbered (Some m) = Some (numberless m)

abbrev pub meant_by : Env → List ℕ → Option Meaning
meant_by env q = unnumbered (meaning_of env q)

-- a pointer to numbers of the type of a vector's components
abbrev pub PointsAs : Space → Bool → Vector → Option Kind → Type 0
PointsAs s c v k = (r : Root) × (p : Reach) × (k ≡ Some (kinds.Pointer s v.of c r each.Element p))

-- A name stands for the same in the plain form and in the form, where its kind is this one. A vector variable is a
-- number there, and here one for each component.
abbrev pub StandsAlike : vectors.Kind → List ℕ → (plain form : Env) → Type 0
StandsAlike (Other b) q plain form = meant_by form q ≡ meant_by plain q
StandsAlike (Pointer s c v) q plain form = (meant_by form q ≡ meant_by plain q) ×
    PointsAs s c v (on_one (meaning_of plain q) kind_of_meaning)
StandsAlike (Vectors v Variable) q plain form =
    (fixed : Bool) × (meant_by plain q ≡ Some (meanings.Scalar v.of fixed 0)) × ((c : ℕ) → c < v.count → meant_by form (component_name q c) ≡ Some (meanings.Scalar v.of fixed 0))
StandsAlike (Vectors v r) q plain form = ⊥

-- how many components the vectors of a kind have
abbrev pub width_in : vectors.Kind → ℕ
width_in (Vectors v r) = v.count
width_in (Pointer s c v) = v.count
width_in (Other b) = 0

-- What is visible in the plain form is visible in the form too, where names stand for these vectors, none of more than
-- 16 components. It is not the argument of a fence, where the names of fences are known first.
pub record Plainly (names : Names) (plain form : Env) : Type 0 where
  pub functions : form.functions ≡ plain.functions
  pub owner : form.owner ≡ plain.owner
  pub declared : form.declared ≡ plain.declared
  pub flags : form.flags ≡ plain.flags
  pub outside : plain.flags ≡ false
  pub in_body : form.in_body ≡ plain.in_body
  pub in_loop : form.in_loop ≡ plain.in_loop
  pub in_switch : form.in_switch ≡ plain.in_switch
  pub labels : form.labels ≡ plain.labels
  pub depth : length form.scopes ≡ length plain.scopes
  pub arrays : length form.arrays ≡ length plain.arrays
  pub tables : length form.tables ≡ length plain.tables
  pub names' : (q : List ℕ) → has_point q ≡ false → StandsAlike (names q) q plain form
  pub narrow : (q : List ℕ) → width_in (names q) ≤ 16
