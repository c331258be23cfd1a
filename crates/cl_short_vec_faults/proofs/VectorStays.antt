-- A declarator behind a vector type that is not refused: an array, a variable, or a variable with a vector of its type.
use Rattle.std.proofs.Common.{◌≡◌, ℕ, nat_eq, List, [], Option, None, Some, Bool, true, false, not, ◌&&◌, refl, ap}
use Rattle.std.proofs.Common.{if◌then◌else◌, sym, ◌∙◌, arith, inl, inr, ◌⊎◌}
use Rattle.std.proofs.lemmas.Bool.{false≢true}
use Rattle.std.proofs.lemmas.Bool.Decides.{nat_tests}
use Rattle.cl_model.specs.declared.program.Space.{Space}
use Rattle.cl_tree.specs.declared.tree.Form.TheVariants as forms
use Rattle.cl_tree.specs.Syntax.{Syntax, node, Forest, none, more}
use Rattle.cl_meaning.specs.Spelling.{dimensions_in, is_set, is_const, declared_in}
use Rattle.cl_meaning.specs.Types.{space_among, declared_as}
use Rattle.cl_meaning.specs.declared.types.Declared.{Declared}
use Rattle.cl_meaning.specs.declared.types.Base.TheVariants.{Integer}
use Rattle.cl_meaning.specs.Declarations.{word_of, parts_of, star_in}
use Rattle.cl_meaning.specs.Kinds.{is_some}
use Rattle.cl_check_sound.specs.Shape.{IsType}
use Rattle.cl_short_vec.specs.declared.types.Vector.{Vector}
use Rattle.cl_short_vec.specs.declared.roles.Around.{Around}
use Rattle.cl_short_vec.specs.declared.roles.Role.{Role}
use Rattle.cl_short_vec.specs.declared.roles.Role.TheVariants.{Declared as DeclaredRole}
use Rattle.cl_short_vec.specs.Types.{vector_type, vector_in}
use Rattle.cl_short_vec.specs.Kinds.{Names, is_variable}
use Rattle.cl_short_vec.specs.Marks.{kind_at, marked, marked_parts}
use Rattle.cl_short_vec.specs.Roles.{around_of}
use Rattle.cl_short_vec.specs.Faults.{is_private_at, is_placed, set_wrongly, misplaced}
use Rattle.cl_short_vec.specs.Faults.{no_component, types_differ, least, refusal_at, refusals, refusals_in}
use Rattle.cl_short_vec.specs.Scalar.{component_words}
use Rattle.cl_short_vec.specs.Nodes.{constant_word}
use Rattle.cl_short_vec_faults.specs.PlainForm.{plain_of, plains_of}
use Rattle.cl_short_vec_faults.proofs.Refused.{none_of, node_none}
use Rattle.cl_short_vec_faults.proofs.LineWords.{declared_with, base_word, const_word}
use Rattle.cl_short_vec_faults.proofs.PlainDeclarations.{said, said_vector, said_space}

-- ---- the type of components

-- what the plain form of a vector type declares
abbrev pub components_of_type : Vector → Syntax → Declared
components_of_type v type = declared_with (space_among (parts_of type)) (is_const (word_of type)) v.of

words_declared : (o : Option Vector) (v : Vector) (w : List ℕ) (f l : ℕ) (ps : Forest) → o ≡ Some v →
    declared_in (node forms.TypeNode (component_words o w) f l ps) ≡
    Some (declared_with (space_among ps) (is_const w) v.of)
words_declared o v w f l ps e =
    ap (λ o. declared_in (node forms.TypeNode (component_words o w) f l ps)) e ∙
    (ap (λ b. declared_as b (is_const (constant_word (is_const w) v.of)) (space_among ps))
    (base_word (is_const w) v.of) ∙
    ap (λ c. declared_as (Some (Integer v.of false)) c (space_among ps)) (const_word (is_const w) v.of))

pub type_declared : (type : Syntax) (v : Vector) → IsType type → vector_type type ≡ Some v →
    declared_in (plain_of type) ≡ Some (components_of_type v type)
unfolding plain_of plains_of
type_declared (node forms.TypeNode w f l none) v h e = words_declared (vector_in w) v w f l none e
type_declared (node forms.TypeNode w f l (more (node forms.SpaceNode w' f' l' none) none)) v h e =
    words_declared (vector_in w) v w f l (more (node forms.SpaceNode w' f' l' none) none) e
type_declared type v h e = absurd h

-- ---- what is not refused of a declarator

-- a declaration of vectors
abbrev pub declaring : Around → Vector → Option Space → Role
declaring a v space = DeclaredRole (record { around = a; vector = Some v; space = space })

pub said_declaring : (role : Role) (names : Names) (type : Syntax) (ds : Forest) (v : Vector) →
    vector_type type ≡ Some v → DeclaredRole (said role names type ds) ≡
    declaring (around_of role) v (space_among (parts_of type))
said_declaring role names type ds v e =
    ap (λ z. DeclaredRole (record {
      around = around_of role;
      vector = z;
      space = (said role names type ds).space;
    })) (said_vector role names type ds ∙ e) ∙
    ap (λ z. DeclaredRole (record { around = around_of role; vector = Some v; space = z }))
    (said_space role names type ds)

pub not_false : (b : Bool) → not b ≡ false → b ≡ true
not_false true h = refl
not_false false h = absurd (false≢true (sym h))

pub and_false : (a b : Bool) → a ≡ true → (a && b) ≡ false → b ≡ false
and_false true b e h = h
and_false false b e h = absurd (false≢true e)

pub both_hold : (a b : Bool) → (a && b) ≡ true → (a ≡ true) × (b ≡ true)
both_hold true b h = (refl, h)
both_hold false b h = absurd (false≢true h)

least_differ : (token : ℕ) (a b c : Bool) → least token a b c ≡ [] → c ≡ false
least_differ token true b c h = absurd cc
least_differ token false true c h = absurd cc
least_differ token false false true h = absurd cc
least_differ token false false false h = refl

-- what is not refused of a declarator
pub record Stays (a : Around) (v : Vector) (space : Option Space) (names : Names) (w : List ℕ) (f l : ℕ)
    (ps : Forest) : Type 0 where
  pub placed : is_placed a space w ps ≡ true
  pub right : is_variable w ps ≡ true → is_set w ≡ true →
      set_wrongly a (Some v) (marked_parts forms.DeclaratorNode ps names true ps) ≡ false
  pub parts : refusals_in (declaring a v space) (marked names (node forms.DeclaratorNode w f l ps)) true
      (marked_parts forms.DeclaratorNode ps names true ps) ≡ []

pub declarator_stays : (a : Around) (v : Vector) (space : Option Space) (names : Names) (w : List ℕ) (f l : ℕ)
    (ps : Forest) → refusals (declaring a v space) (marked names (node forms.DeclaratorNode w f l ps)) ≡ [] →
    Stays a v space names w f l ps
unfolding refusals marked misplaced types_differ
declarator_stays a v space names w f l ps r =
    let d = node forms.DeclaratorNode w f l ps in
    let role = declaring a v space in
    let m = marked names d in
    let ms = marked_parts forms.DeclaratorNode ps names true ps in
    let x = node_none role d (kind_at m) ms r in
    let y = least_differ f (misplaced role d (kind_at m)) (no_component role m) (types_differ role d (kind_at m) ms)
    (none_of (refusals_in role m true ms) (refusal_at role m) r).1 in
    record {
      placed = not_false (is_placed a space w ps) x.1;
      right = λ va se. and_false (is_variable w ps && is_set w) (set_wrongly a (Some v) ms)
          (ap (λ z. z && is_set w) va ∙ se) y;
      parts = x.0;
    }

-- ---- variables and arrays

-- a variable, in a function and in the item's own memory; or an array of one dimension without an initialiser
pub record IsVariableAt (a : Around) (space : Option Space) (w : List ℕ) (ps : Forest) : Type 0 where
  pub single : dimensions_in w ≡ 0
  pub no_star : star_in ps ≡ None
  pub private : is_private_at a space ≡ true
  pub variable : is_variable w ps ≡ true

pub record IsArrayAt (w : List ℕ) (ps : Forest) : Type 0 where
  pub one : dimensions_in w ≡ 1
  pub no_star : star_in ps ≡ None
  pub unset : is_set w ≡ false
  pub array : is_variable w ps ≡ false

no_some : {A : Type 0} (o : Option A) → not (is_some o) ≡ true → o ≡ None
no_some None h = refl
no_some (Some a) h = absurd (false≢true h)

no_true : (b : Bool) → not b ≡ true → b ≡ false
no_true true h = absurd (false≢true h)
no_true false h = refl

zero_eq : (n : ℕ) → nat_eq n 0 ≡ true → n ≡ 0
zero_eq n h = grind (arith, nat_tests)

one_eq : (n : ℕ) → nat_eq n 1 ≡ true → n ≡ 1
one_eq n h = grind (arith, nat_tests)

pub placed_cases : (a : Around) (space : Option Space) (w : List ℕ) (ps : Forest) → is_placed a space w ps ≡ true →
    IsVariableAt a space w ps ⊎ IsArrayAt w ps
placed_cases a space w ps h =
    let x = both_hold (not (is_some (star_in ps))) (if nat_eq (dimensions_in w) 0 then is_private_at a space else
    nat_eq (dimensions_in w) 1 && not (is_set w)) h in by (nat_eq (dimensions_in w) 0) refl x.0 x.1
  where
    by : (b : Bool) → nat_eq (dimensions_in w) 0 ≡ b → not (is_some (star_in ps)) ≡ true →
        (if b then is_private_at a space else nat_eq (dimensions_in w) 1 && not (is_set w)) ≡ true →
        IsVariableAt a space w ps ⊎ IsArrayAt w ps
    by true e s y = inl (record {
      single = zero_eq (dimensions_in w) e;
      no_star = no_some (star_in ps) s;
      private = y;
      variable = ap (λ z. z && not (is_some (star_in ps))) e ∙ s;
    })
    by false e s y =
        let z = both_hold (nat_eq (dimensions_in w) 1) (not (is_set w)) y in inr (record {
          one = one_eq (dimensions_in w) z.0;
          no_star = no_some (star_in ps) s;
          unset = no_true (is_set w) z.1;
          array = ap (λ z. z && not (is_some (star_in ps))) e;
        })
