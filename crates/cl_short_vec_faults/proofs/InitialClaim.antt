-- What is to be shown of a vector variable that is declared in a block with its initialiser: where no node of the plain
-- form is at fault, no line of its steps is, and behind them names stand for the same side by side.
use Rattle.std.proofs.Common.{◌≡◌, ℕ, suc, ◌≤◌, ◌<◌, ◌^◌, List, [], length, Some, true, false}
use Rattle.cl_model.specs.declared.program.VarKind.TheVariants as var_kinds
use Rattle.cl_tree.specs.declared.tree.Form.TheVariants as forms
use Rattle.cl_tree.specs.Syntax.{Syntax, node, more, none}
use Rattle.cl_meaning.specs.Spelling.{name_in, is_const, dimensions_in, is_set, declared_in}
use Rattle.cl_meaning.specs.Types.{space_among}
use Rattle.cl_meaning.specs.declared.kind.Meaning.TheVariants as meanings
use Rattle.cl_meaning.specs.declared.kind.Role.TheVariants as roles
use Rattle.cl_meaning.specs.Environment.{Env, is_declared}
use Rattle.cl_meaning.specs.Declarations.{word_of, parts_of, with_variable}
use Rattle.cl_meaning.specs.Visible.{Before, behind_parts}
use Rattle.cl_meaning.specs.Faults.{Asked}
use Rattle.cl_check_sound.specs.Shape.{IsType, IsExpressionOf}
use Rattle.cl_check_sound.specs.Sound.{SoundTree}
use Rattle.cl_short_vec.specs.declared.types.Vector.{Vector}
use Rattle.cl_short_vec.specs.declared.kinds.Reach.TheVariants.{Value, Variable}
use Rattle.cl_short_vec.specs.declared.kinds.Kind.TheVariants.{Vectors}
use Rattle.cl_short_vec.specs.declared.roles.Role.TheVariants.{Used}
use Rattle.cl_short_vec.specs.Types.{vector_type}
use Rattle.cl_short_vec.specs.Kinds.{Names, with_name}
use Rattle.cl_short_vec.specs.Marks.{kind_at, marked}
use Rattle.cl_short_vec.specs.Faults.{refusals, agrees}
use Rattle.cl_short_vec.specs.Order.{initial_steps}
use Rattle.cl_short_vec.specs.Unit.{declared_name, declarator_lines}
use Rattle.cl_short_vec_faults.specs.PlainForm.{plain_of}
use Rattle.cl_short_vec_faults.specs.Plainly.{NoPoint}
use Rattle.cl_short_vec_faults.specs.SoundBut.{AllSoundBut}
use Rattle.cl_short_vec_faults.specs.Beside.{IsName, Beside}
use Rattle.cl_short_vec_faults.specs.Leaves.{NumbersAmong}
use Rattle.cl_short_vec_faults.proofs.Ordered.{Ordered}
use Rattle.cl_short_vec_faults.proofs.LineAdds.{IsOwn}

-- what is visible at the initialiser in the plain form, behind the type of the components
abbrev pub behind_its_type : Env → (type : Syntax) → Env
behind_its_type plain type = record plain { declared = declared_in (plain_of type) }

-- the declarator
abbrev pub set_declarator : (w : List ℕ) (f l : ℕ) (value : Syntax) → Syntax
set_declarator w f l e = node forms.DeclaratorNode w f l (more e none)

-- A declarator of a vector variable behind its type, with its initialiser, from that token on; `plain` is visible in
-- front of it in the plain form, and `form` in front of its lines. In the plain form no node of it is at fault.
pub record Initial (asked : Asked) (names : Names) (bound : ℕ) (plain form : Env) (v : Vector) (type : Syntax)
    (w : List ℕ) (f l : ℕ) (value : Syntax) : Type 0 where
  pub beside : Beside asked names bound plain form
  -- in a block of a function
  pub inside' : 2 ≤ length plain.scopes
  pub in_block : plain.in_body ≡ false
  pub typed : IsType type
  pub vector' : vector_type type ≡ Some v
  pub own : IsOwn (space_among (parts_of type))
  -- the declarator has no brackets and no star, and its name is new
  pub single : dimensions_in w ≡ 0
  pub set' : is_set w ≡ true
  pub name' : IsName (name_in w)
  pub new : is_declared plain (name_in w) ≡ false
  pub ordered : Ordered (set_declarator w f l value)
  pub behind' : bound ≤ f
  pub few : l < 2 ^ 64
  -- the initialiser, a vector of that type
  pub shape : IsExpressionOf true value
  pub no_point : NoPoint value
  pub stays : refusals Used (marked names value) ≡ []
  pub same : agrees (Vectors v Value) (kind_at (marked names value)) ≡ true
  pub leaves : NumbersAmong (behind_its_type plain type)
      (initial_steps v (declared_name (set_declarator w f l value)) (marked names value))
  pub sound : SoundTree asked (behind_its_type plain type) roles.Other (plain_of value)

-- behind it in the plain form
abbrev pub behind_initial : Env → Vector → (type : Syntax) (w : List ℕ) (f : ℕ) → Env
behind_initial plain v type w f = with_variable plain (name_in w) f (var_kinds.Scalar v.of)
    (meanings.Scalar v.of (is_const (word_of type)) (length plain.variables))

abbrev pub InitialLinesFollow : Type 0
InitialLinesFollow = (asked : Asked) (outer names : Names) (bound : ℕ) (plain form : Env) (b : Before) (v : Vector)
    (type : Syntax) (w : List ℕ) (f l : ℕ) (value : Syntax) →
    Initial asked names bound plain form v type w f l value →
    AllSoundBut asked form forms.BlockNode b (declarator_lines v (marked outer type)
    (marked names (set_declarator w f l value)) (Some (marked names value))) ×
    Beside asked (with_name names (name_in w) (Vectors v Variable)) (suc l) (behind_initial plain v type w f)
    (behind_parts form forms.BlockNode false (declarator_lines v (marked outer type)
    (marked names (set_declarator w f l value)) (Some (marked names value))))
