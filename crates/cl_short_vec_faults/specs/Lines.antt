-- The laws on statements and declarations that set a vector: each becomes a block or some lines.
use Rattle.std.specs.Prelude.{◌≡◌, ℕ, suc, ◌≤◌, ◌<◌, ◌^◌, ◌⊎◌, List, [], ◌++◌, length, codes, decimal, Option, None}
use Rattle.std.specs.Prelude.{Some, Bool, true, false}
use Rattle.cl_model.specs.Lists.{Each}
use Rattle.cl_model.specs.declared.program.Space.{Space}
use Rattle.cl_model.specs.declared.program.Space.TheVariants as spaces
use Rattle.cl_model.specs.declared.program.VarKind.{VarKind}
use Rattle.cl_tree.specs.declared.tree.Form.TheVariants as forms
use Rattle.cl_tree.specs.Syntax.{Syntax, node, Forest, none, more, first_of, last_of}
use Rattle.cl_meaning.specs.Spelling.{setting_in, is_const}
use Rattle.cl_meaning.specs.Types.{space_among}
use Rattle.cl_meaning.specs.Declarations.{word_of, parts_of, with_variable}
use Rattle.cl_meaning.specs.declared.kind.Meaning.TheVariants as meanings
use Rattle.cl_meaning.specs.declared.kind.Role.{Role}
use Rattle.cl_meaning.specs.declared.kind.Role.TheVariants as roles
use Rattle.cl_meaning.specs.Environment.{Env, is_declared}
use Rattle.cl_meaning.specs.Visible.{Before, behind, behind_parts, kind_of}
use Rattle.cl_meaning.specs.Faults.{Asked}
use Rattle.cl_check_sound.specs.Shape.{IsType, IsExpressionOf}
use Rattle.cl_check_sound.specs.Sound.{SoundTree, SoundParts}
use Rattle.cl_short_vec.specs.declared.nodes.Span.{Span}
use Rattle.cl_short_vec.specs.declared.types.Vector.{Vector}
use Rattle.cl_short_vec.specs.declared.kinds.Reach.TheVariants.{Value, Variable}
use Rattle.cl_short_vec.specs.declared.kinds.Kind.TheVariants.{Vectors}
use Rattle.cl_short_vec.specs.declared.roles.Role.TheVariants.{Used, Whole}
use Rattle.cl_short_vec.specs.Types.{vector_type}
use Rattle.cl_short_vec.specs.Kinds.{Names, with_name, is_vector}
use Rattle.cl_short_vec.specs.Kinds as vectors
use Rattle.cl_short_vec.specs.Marks.{Mark, tree_at, kind_at, marked}
use Rattle.cl_short_vec.specs.Faults.{refusals, agrees}
use Rattle.cl_short_vec.specs.Nodes.{component_name}
use Rattle.cl_short_vec.specs.Order.{Step, Number, operator_in, setting_steps}
use Rattle.cl_short_vec.specs.Order.{initial_steps}
use Rattle.cl_short_vec.specs.Unit.{set_block, declared_name, declarator_lines}
use Rattle.cl_short_vec_faults.specs.PlainForm.{plain_of}
use Rattle.cl_short_vec_faults.specs.Plainly.{has_point, NoPoint, Plainly}
use Rattle.cl_short_vec_faults.specs.Law.{AllGive}
use Rattle.cl_short_vec_faults.specs.Parts.{KnownAlone}
use Rattle.cl_short_vec_faults.specs.Leaves.{IsNumber}

-- a leaf that is no vector is a number, and no pointer; without a kind it is at fault
abbrev pub IsNumberLeaf : Env → Step → Type 0
IsNumberLeaf plain (Number of m) = IsNumber (kind_of plain (plain_of (tree_at m)))
IsNumberLeaf plain step = Unit {0}

-- ---- tokens in order

-- the tokens of the parts of a tree stand in it one behind the other
abbrev mutual
  pub InOrder : Syntax → Type 0
  InOrder (node form w f l parts) = (f ≤ l) × PartsInOrder f l parts

  pub PartsInOrder : (first last : ℕ) → Forest → Type 0
  PartsInOrder f l none = Unit {0}
  PartsInOrder f l (more p ps) =
      (f ≤ first_of p) × (last_of p ≤ l) × InOrder p × PartsInOrder (suc (last_of p)) l ps

-- the name is that of the helping variable of a token, or of one of its components
abbrev pub TokenOf : ℕ → List ℕ → Type 0
TokenOf i q = (q ≡ codes "." ++ decimal i) ⊎ ((c : ℕ) × (q ≡ component_name (codes "." ++ decimal i) c))

-- the token is one of these
abbrev pub InRange : (first last : ℕ) → List ℕ → Type 0
InRange f l q = (i : ℕ) × (f ≤ i) × (i ≤ l) × TokenOf i q

-- ---- statements

-- What is visible at a line of a function's block, in the plain form and in the form. No vector is nameless.
pub record InBlock (asked : Asked) (names : Names) (plain form : Env) : Type 0 where
  pub alike : Plainly names plain form
  pub give : AllGive asked plain
  pub alone : KnownAlone plain
  pub nameless : is_vector (names []) ≡ false
  pub unflagged : plain.flags ≡ false
  pub inside : plain.in_body ≡ false
  pub inner : 2 ≤ length form.scopes

-- No node of a statement is at fault, and behind it the same is visible as before it.
pub record StatementFollows (asked : Asked) (names : Names) (plain form : Env) (place : Role) (t : Syntax) : Type 0
  where
    pub sound : SoundTree asked form place t
    pub plainly : Plainly names plain (behind form t)
    pub scopes : (behind form t).scopes ≡ form.scopes

-- Where no node of the plain form of an assignment to a vector is at fault, its leaves are numbers, and its tokens
-- are in order, no node of the block that stands for it is at fault.
abbrev pub SettingsFollow : Type 0
SettingsFollow = (asked : Asked) (names : Names) (plain form : Env) (place : Role) (s : Span) (w : List ℕ) (f l : ℕ)
    (a b : Syntax) → let t = node forms.AssignNode w f l (more a (more b none)) in
    let m = marked names a in
    let n = marked (vectors.behind names a) b in
    let o = operator_in (setting_in w) in IsExpressionOf true t → NoPoint t → InBlock asked names plain form →
    refusals Whole (marked names t) ≡ [] → is_vector (kind_at m) ≡ true →
    SoundTree asked plain roles.Whole (plain_of t) → InOrder t → l < 2 ^ 64 →
    Each (IsNumberLeaf plain) (setting_steps o m n) →
    StatementFollows asked names plain form place (set_block s o m n)

-- ---- a declaration with an initialiser

-- a space word that leaves a variable to the item itself
abbrev pub IsOwnSpace : Option Space → Type 0
IsOwnSpace None = Unit {0}
IsOwnSpace (Some spaces.Private) = Unit {0}
IsOwnSpace s = ⊥

-- The lines of a vector variable with its initialiser are at fault at no node. Behind them the variable is visible, and
-- in the form each of its components; and no other name is declared but those of helping variables of its tokens.
pub record InitialFollows (asked : Asked) (names : Names) (plain form : Env) (v : Vector) (q : List ℕ)
    (constant : Bool) (first last : ℕ) (lines : Forest) : Type 0 where
  pub sound : (b : Before) → SoundParts asked form forms.BlockNode b lines
  pub plainly : (front : Bool) (token number : ℕ) (kind : VarKind) →
      Plainly (with_name names q (Vectors v Variable))
      (with_variable plain q token kind (meanings.Scalar v.of constant number))
      (behind_parts form forms.BlockNode front lines)
  pub others : (front : Bool) (r : List ℕ) → (InRange first last r → ⊥) → ((c : ℕ) → r ≡ component_name q c → ⊥) →
      is_declared (behind_parts form forms.BlockNode front lines) r ≡ is_declared form r

-- Where no node of the plain form of the initialiser of a vector variable is at fault, its leaves are numbers, its
-- tokens are in order, and no helping variable of one of them and no component of the variable is declared, no node of
-- the lines is at fault. The variable has a name.
abbrev pub InitialsFollow : Type 0
InitialsFollow = (asked : Asked) (names : Names) (plain form : Env) (v : Vector) (t e : Syntax) (d : Mark) →
    let x = declared_name (tree_at d) in
    let n = marked names e in
    let ss = initial_steps v x n in InBlock asked names plain form → IsType t → vector_type t ≡ Some v →
    IsOwnSpace (space_among (parts_of t)) → has_point x.name ≡ false → (x.name ≡ [] → ⊥) → IsExpressionOf true e → NoPoint e → refusals Used n ≡ [] → agrees (Vectors v Value) (kind_at n) ≡ true →
    SoundTree asked plain roles.Other (plain_of e) → InOrder e → last_of e < 2 ^ 64 →
    Each (IsNumberLeaf plain) ss →
    ((q : List ℕ) → InRange (first_of e) (last_of e) q → is_declared form q ≡ false) →
    ((c : ℕ) → is_declared form (component_name x.name c) ≡ false) →
    InitialFollows asked names plain form v x.name (is_const (word_of t)) (first_of e) (last_of e)
    (declarator_lines v (marked names t) d (Some n))
