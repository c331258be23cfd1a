-- What is to be shown of declarations, statements and functions: where no node of the plain form is at fault, no node
-- of what stands for them is, but perhaps by the length of an array; and what is visible behind them goes on side by
-- side.
use Rattle.std.proofs.Common.{None, ◌≡◌, ℕ, suc, ◌≤◌, ◌<◌, ◌^◌, List, [], Some, true, false, slice_get, length}
use Rattle.wg_num.specs.declared.types.Place.{Place}
use Rattle.cl_token.specs.declared.token.Token.{Token}
use Rattle.cl_model.specs.Lists.{IsOneOf}
use Rattle.cl_tree.specs.declared.tree.Form.TheVariants as forms
use Rattle.cl_tree.specs.Grammar.{SpellsUnit}
use Rattle.cl_limits.specs.Judged.{nodes_of, asked_in, IsSound}
use Rattle.cl_meaning.specs.declared.fault.Fault.{Fault}
use Rattle.cl_meaning.specs.Faults.{at_fault, looked}
use Rattle.cl_meaning.specs.Visible.{Node}
use Rattle.cl_meaning.specs.Meant.{start_of}
use Rattle.cl_check_sound.specs.Shape.{IsUnitOf}
use Rattle.cl_short_vec.specs.Kinds.{no_names}
use Rattle.cl_short_vec.specs.Faults.{refusal_of}
use Rattle.cl_short_vec.specs.Unit.{scalarised_of}
use Rattle.cl_short_vec_faults.specs.SoundBut.{is_of_size}
use Rattle.cl_tree.specs.Syntax.{Syntax, node, first_of, last_of}
use Rattle.cl_meaning.specs.Spelling.{name_in}
use Rattle.cl_meaning.specs.declared.kind.Role.{Role}
use Rattle.cl_meaning.specs.declared.kind.Role.TheVariants as roles
use Rattle.cl_meaning.specs.Environment.{Env}
use Rattle.cl_meaning.specs.Declarations.{signature_in}
use Rattle.cl_meaning.specs.Visible.{Before, behind, behind_parts, definition_of}
use Rattle.cl_meaning.specs.Faults.{Asked}
use Rattle.cl_check_sound.specs.Shape.{IsDeclarationOf, IsStatementOf, IsFunctionOf, IsPrototypeOf}
use Rattle.cl_check_sound.specs.Sound.{SoundTree}
use Rattle.cl_check_sound.proofs.Constants.{OneScope}
use Rattle.cl_short_vec.specs.declared.roles.Role as vector_roles
use Rattle.cl_short_vec.specs.declared.roles.Role.TheVariants.{Free, Outer}
use Rattle.cl_short_vec.specs.Kinds.{Names, is_vector}
use Rattle.cl_short_vec.specs.Kinds as kinds
use Rattle.cl_short_vec.specs.Marks.{marked}
use Rattle.cl_short_vec.specs.Faults.{refusals}
use Rattle.cl_short_vec.specs.Unit.{block_line, scalarised}
use Rattle.cl_short_vec_faults.specs.PlainForm.{plain_of}
use Rattle.cl_short_vec_faults.specs.Plainly.{NoPoint}
use Rattle.cl_short_vec_faults.specs.SoundBut.{SoundBut, AllSoundBut}
use Rattle.cl_short_vec_faults.specs.Beside.{Beside}
use Rattle.cl_short_vec_faults.specs.Leaves.{LeavesFit}
use Rattle.cl_short_vec_faults.specs.UnitLaw.{DeclaredNames}
use Rattle.cl_short_vec_faults.proofs.Ordered.{Ordered}
use Rattle.cl_short_vec_faults.proofs.TokenFacts.{Facts}

-- A tree of the source from that token on, where these are visible, in which nothing is refused and no node of the
-- plain form is at fault.
pub record Stands (asked : Asked) (names : Names) (bound : ℕ) (plain form : Env) (role : vector_roles.Role)
    (place : Role) (t : Syntax) : Type 0 where
  pub beside : Beside asked names bound plain form
  pub ordered : Ordered t
  pub behind' : bound ≤ first_of t
  pub few : last_of t < 2 ^ 64
  pub facts : Facts t
  pub no_point : NoPoint t
  pub declared : DeclaredNames t
  pub stays : refusals role (marked names t) ≡ []
  pub leaves : LeavesFit plain (marked names t)
  pub sound : SoundTree asked plain place (plain_of t)

-- Behind it, where what stands for it leaves `later`, names stand for these.
abbrev pub Goes : Asked → Names → (t : Syntax) → (plain later : Env) → Type 0
Goes asked after t plain later = Beside asked after (suc (last_of t)) (behind plain (plain_of t)) later

-- a declaration as lines of a block
abbrev pub DeclarationsFollow : Type 0
DeclarationsFollow = (asked : Asked) (names : Names) (bound : ℕ) (plain form : Env) (b : Before) (t : Syntax) →
    IsDeclarationOf true t → plain.in_body ≡ false → Stands asked names bound plain form Free roles.Other t →
    AllSoundBut asked form forms.BlockNode b (block_line (marked names t) (scalarised (marked names t))) ×
    Goes asked (kinds.behind names t) t plain
    (behind_parts form forms.BlockNode false (block_line (marked names t) (scalarised (marked names t))))

-- a declaration as one node: in the head of a `for`, and in the unit
abbrev pub HeadsFollow : vector_roles.Role → Type 0
HeadsFollow role = (asked : Asked) (names : Names) (bound : ℕ) (plain form : Env) (t : Syntax) →
    IsDeclarationOf true t → Stands asked names bound plain form role roles.Other t →
    SoundBut asked form roles.Other (scalarised (marked names t)) ×
    Goes asked (kinds.behind names t) t plain (behind form (scalarised (marked names t)))

-- a statement in a function that is not its block, which shares the scope of the parameters
abbrev pub StatementsFollow : Type 0
StatementsFollow = (asked : Asked) (names : Names) (bound : ℕ) (plain form : Env) (t : Syntax) →
    IsStatementOf true t → plain.in_body ≡ false → 2 ≤ length plain.scopes →
    Stands asked names bound plain form Free roles.Other t →
    SoundBut asked form roles.Other (scalarised (marked names t)) ×
    Goes asked names t plain (behind form (scalarised (marked names t)))

-- what is visible at the items of a unit, and that no name stands for a vector there
pub record InUnit (names : Names) (plain : Env) : Type 0 where
  pub one : OneScope plain
  pub vectorless : (q : List ℕ) → is_vector (names q) ≡ false

-- a function of the unit, and none of its name in front of it
abbrev pub IsDefined : Env → Syntax → Type 0
IsDefined plain (node form w f l parts) = (n : ℕ) ×
    (definition_of plain (name_in w) ≡ Some (n, (signature_in w parts).kernel)) ×
    (slice_get plain.functions n ≡ Some (signature_in w parts))

abbrev pub FunctionsFollow : Type 0
FunctionsFollow = (asked : Asked) (names : Names) (bound : ℕ) (plain form : Env) (t : Syntax) →
    IsFunctionOf true t → InUnit names plain → IsDefined plain (plain_of t) →
    Stands asked names bound plain form Outer roles.Other t →
    SoundBut asked form roles.Other (scalarised (marked names t)) ×
    Goes asked (kinds.behind names t) t plain (behind form (scalarised (marked names t)))

abbrev pub PrototypesFollow : Type 0
PrototypesFollow = (asked : Asked) (names : Names) (bound : ℕ) (plain form : Env) (t : Syntax) →
    IsPrototypeOf true t → InUnit names plain → Stands asked names bound plain form Outer roles.Other t →
    SoundBut asked form roles.Other (scalarised (marked names t)) ×
    Goes asked (kinds.behind names t) t plain (behind form (scalarised (marked names t)))

-- the nodes of a unit
abbrev pub NodesFollow : Type 0
NodesFollow = (places : List Place) (kernel : List ℕ) (tokens : List Token) (unit : Syntax) → SpellsUnit unit tokens →
    last_of unit < 2 ^ 64 → IsUnitOf true unit → NoPoint unit → DeclaredNames unit → refusal_of unit ≡ None →
    IsSound places kernel (plain_of unit) → LeavesFit (start_of places (plain_of unit)) (marked no_names unit) →
    (n : Node) → IsOneOf (nodes_of places (scalarised_of unit)) n → (k : Fault) → is_of_size k ≡ false →
    at_fault (asked_in places kernel (scalarised_of unit)) (looked n) k ≡ false
