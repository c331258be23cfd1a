-- What is in hand where a statement of a unit stands, and what is to be shown of statements that set vectors and of
-- declarators that initialise them.
use Rattle.std.proofs.Common.{◌≡◌, List, [], Some, true, false, ℕ}
use Rattle.wg_num.specs.declared.types.Place.{Place}
use Rattle.cl_model.specs.Tree.{Function, Program}
use Rattle.cl_model.specs.Calls.{function_at}
use Rattle.cl_model.specs.Valid.{Scope}
use Rattle.cl_tree.specs.declared.tree.Form.TheVariants as forms
use Rattle.cl_tree.specs.Syntax.{Syntax, Forest, joined}
use Rattle.cl_meaning.specs.Spelling.{name_in, setting_in}
use Rattle.cl_meaning.specs.Types.{space_among}
use Rattle.cl_meaning.specs.Kinds.{is_some}
use Rattle.cl_meaning.specs.declared.kind.Role.{Role}
use Rattle.cl_meaning.specs.Environment.{Env, Variable, Array}
use Rattle.cl_meaning.specs.Declarations.{word_of, parts_of}
use Rattle.cl_meaning.specs.Visible.{Before, behind, behind_parts}
use Rattle.cl_meaning.specs.Faults.{Asked}
use Rattle.cl_check_sound.specs.Shape.{IsType, IsExpressionOf, IsDeclaratorOf}
use Rattle.cl_check_sound.specs.Sound.{SoundTree, SoundParts}
use Rattle.cl_check_sound.proofs.Grown.{Extends}
use Rattle.cl_check_sound.proofs.Stating.{Here}
use Rattle.cl_short_vec.specs.declared.nodes.Span.{Span}
use Rattle.cl_short_vec.specs.declared.types.Vector.{Vector}
use Rattle.cl_short_vec.specs.declared.kinds.Reach.TheVariants.{Value}
use Rattle.cl_short_vec.specs.declared.kinds.Kind.TheVariants.{Vectors}
use Rattle.cl_short_vec.specs.declared.roles.Around.TheVariants as around
use Rattle.cl_short_vec.specs.declared.roles.Role.TheVariants.{Used, Target}
use Rattle.cl_short_vec.specs.Types.{vector_type}
use Rattle.cl_short_vec.specs.Kinds.{Names, is_vector, is_variable}
use Rattle.cl_short_vec.specs.Marks.{kind_at, marked}
use Rattle.cl_short_vec.specs.Order.{operator_in}
use Rattle.cl_short_vec.specs.Faults.{is_private_at, right_fits, agrees, refusals}
use Rattle.cl_short_vec.specs.Unit.{set_block, declarator_lines}
use Rattle.cl_short_vec.proofs.Small.{SmallNames}
use Rattle.cl_short_vec_correct.specs.Sources.{Sourced}
use Rattle.cl_short_vec_correct.specs.Each.{SettingDoes, DeclaratorDoes}
use Rattle.cl_short_vec_correct.proofs.Says.{IsOwn, Says, OwnNames}
use Rattle.cl_short_vec_correct.proofs.Whole.{WholeNames}
use Rattle.cl_short_vec_correct.proofs.Reaches.{AreNamed}
use Rattle.cl_short_vec_correct.proofs.Seen.{Intrinsics}

module _ (P : Program) (f : Function) (asked : Asked) (vars : List Variable) (arrs : List Array) where
  -- all that is declared there is there in the end
  abbrev pub Ends : Env → Type 0
  Ends env = Extends env.variables vars × Extends env.arrays arrs

  -- Names of the unit and what is visible in the unit without vectors, where a statement stands.
  pub record Stands (names : Names) (env : Env) : Type 0 where
    pub scope : Scope
    pub here : Here P f asked.missing scope env
    pub says : Says names env
    pub own : OwnNames names
    pub small : SmallNames names
    pub whole : WholeNames names
    pub named : AreNamed names
    pub known : Intrinsics env
    pub flags : env.flags ≡ false
    -- this function is the one in which it stands
    pub owned : (function_at P env.owner.number).variables ≡ f.variables

  -- `a OP= b` with these own words, as a statement of its own that sets a vector, which stands for a block
  pub record SettingHere (names : Names) (env : Env) (s : Span) (w : List ℕ) (a b : Syntax) : Type 0 where
    pub stands : Stands names env
    pub target : IsExpressionOf true a
    pub value : IsExpressionOf true b
    pub setting : is_some (setting_in w) ≡ true
    pub target_sourced : Sourced a
    pub value_sourced : Sourced b
    pub vector : is_vector (kind_at (marked names a)) ≡ true
    pub fits : right_fits (setting_in w) (kind_at (marked names a)) (kind_at (marked names b)) ≡ true
    pub target_stays : refusals Target (marked names a) ≡ []
    pub value_stays : refusals Used (marked names b) ≡ []
    pub role : Role
    pub sound : SoundTree asked env role (set_block s (operator_in (setting_in w)) (marked names a) (marked names b))
    pub ends : Ends (behind env (set_block s (operator_in (setting_in w)) (marked names a) (marked names b)))

  -- A declarator of a vector variable with its initialiser, in a block, which stands for some lines; `outer` are the
  -- names in front of the declaration.
  pub record InitialHere (outer names : Names) (env : Env) (v : Vector) (type d e : Syntax) : Type 0 where
    pub stands : Stands names env
    pub typed : IsType type
    pub type_vector : vector_type type ≡ Some v
    pub private : is_private_at around.Block (space_among (parts_of type)) ≡ true
    pub declarator : IsDeclaratorOf true d
    pub variable : is_variable (word_of d) (parts_of d) ≡ true
    pub named : IsOwn (name_in (word_of d))
    pub value : IsExpressionOf true e
    pub value_sourced : Sourced e
    pub same : agrees (Vectors v Value) (kind_at (marked names e)) ≡ true
    pub value_stays : refusals Used (marked names e) ≡ []
    -- the lines of the declarator, and others behind them
    pub before : Before
    pub rest : Forest
    pub sound : SoundParts asked env forms.BlockNode before
        (joined (declarator_lines v (marked outer type) (marked names d) (Some (marked names e))) rest)
    pub ends : Ends (behind_parts env forms.BlockNode false
        (declarator_lines v (marked outer type) (marked names d) (Some (marked names e))))

  -- each of them does its steps
  pub record Locals : Type 0 where
    pub setting : (names : Names) (env : Env) (sites : List Place) (s : Span) (w : List ℕ) (a b : Syntax) →
        SettingHere names env s w a b →
        SettingDoes P env sites s (operator_in (setting_in w)) (marked names a) (marked names b)
    pub declarator : (outer names : Names) (env : Env) (sites : List Place) (v : Vector) (type d e : Syntax) →
        InitialHere outer names env v type d e →
        DeclaratorDoes P env sites v (marked outer type) (marked names d) (Some (marked names e))
