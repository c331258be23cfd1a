-- The law on units.
use Rattle.std.specs.Prelude.{◌≡◌, ℕ, ◌<◌, ◌^◌, List, Option, None, Some, true, false}
use Rattle.wg_num.specs.declared.types.Place.{Place}
use Rattle.cl_token.specs.declared.token.Token.{Token}
use Rattle.cl_model.specs.Lists.{IsOneOf}
use Rattle.cl_tree.specs.Syntax.{Syntax, node, Forest, none, more, last_of}
use Rattle.cl_tree.specs.declared.tree.Form.{Form}
use Rattle.cl_tree.specs.declared.tree.Form.TheVariants as forms
use Rattle.cl_tree.specs.Grammar.{SpellsUnit}
use Rattle.cl_limits.specs.Kernel.{at_limit}
use Rattle.cl_limits.specs.Judged.{nodes_of, asked_in, sized_in, IsSound}
use Rattle.cl_meaning.specs.Spelling.{name_in}
use Rattle.cl_meaning.specs.declared.fault.Fault.{Fault}
use Rattle.cl_meaning.specs.declared.fault.Fault.TheVariants as faults
use Rattle.cl_meaning.specs.Faults.{at_fault, looked}
use Rattle.cl_meaning.specs.Visible.{Node}
use Rattle.cl_meaning.specs.Meant.{start_of}
use Rattle.cl_check_sound.specs.Shape.{IsUnitOf}
use Rattle.cl_short_vec.specs.Kinds.{no_names}
use Rattle.cl_short_vec.specs.Marks.{marked}
use Rattle.cl_short_vec.specs.Faults.{refusal_of}
use Rattle.cl_short_vec.specs.Unit.{scalarised_of}
use Rattle.cl_short_vec_faults.specs.PlainForm.{plain_of}
use Rattle.cl_short_vec_faults.specs.Plainly.{NoPoint}
use Rattle.cl_short_vec_faults.specs.Beside.{IsName}
use Rattle.cl_short_vec_faults.specs.SoundBut.{is_of_size}
use Rattle.cl_short_vec_faults.specs.Leaves.{LeavesFit}

-- ---- names that are declared

-- what is declared has a name of a source
abbrev pub DeclaredNameBy : Form → List ℕ → Type 0
DeclaredNameBy forms.DeclaratorNode w = IsName (name_in w)
DeclaredNameBy forms.ParamNode w = IsName (name_in w)
DeclaredNameBy forms.FunctionNode w = IsName (name_in w)
DeclaredNameBy forms.PrototypeNode w = IsName (name_in w)
DeclaredNameBy form w = Unit {0}

abbrev mutual
  pub DeclaredNames : Syntax → Type 0
  DeclaredNames (node form w f l parts) = DeclaredNameBy form w × AllDeclaredNames parts

  pub AllDeclaredNames : Forest → Type 0
  AllDeclaredNames none = Unit {0}
  AllDeclaredNames (more p ps) = DeclaredNames p × AllDeclaredNames ps

-- ---- the law

-- Nothing is to be said against the plain form of a unit: no node of it is at fault, barriers do not stand too deep in
-- its kernel, and each leaf of a vector statement that should be a number is one.
pub record PlainStands (places : List Place) (kernel : List ℕ) (unit : Syntax) : Type 0 where
  pub sound : IsSound places kernel (plain_of unit)
  pub shallow : at_limit (sized_in places kernel (plain_of unit)) faults.BarriersTooDeep ≡ false
  pub leaves : LeavesFit (start_of places (plain_of unit)) (marked no_names unit)

-- Then no node of the unit without vectors is at fault, but perhaps by the length of an array, and barriers do not
-- stand too deep in the kernel.
pub record FormStands (places : List Place) (kernel : List ℕ) (unit : Syntax) : Type 0 where
  pub sound : (n : Node) → IsOneOf (nodes_of places (scalarised_of unit)) n → (k : Fault) → is_of_size k ≡ false →
      at_fault (asked_in places kernel (scalarised_of unit)) (looked n) k ≡ false
  pub shallow : at_limit (sized_in places kernel (scalarised_of unit)) faults.BarriersTooDeep ≡ false

-- The unit has fewer tokens than 2 ^ 64, so that the helping variables of each have a name of their own.
abbrev pub UnitsFollow : Type 0
UnitsFollow = (places : List Place) (kernel : List ℕ) (tokens : List Token) (unit : Syntax) → SpellsUnit unit tokens →
    last_of unit < 2 ^ 64 → IsUnitOf true unit → NoPoint unit → DeclaredNames unit → refusal_of unit ≡ None →
    PlainStands places kernel unit → FormStands places kernel unit
