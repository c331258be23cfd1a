-- What is not refused of a unit: nothing is refused of its parts, and declarators behind a vector type are placed.
use Rattle.std.proofs.Common.{◌≡◌, ℕ, nat_eq, List, [], ◌∷◌, ◌++◌, Option, None, Some, Bool, true, false, not, ◌&&◌}
use Rattle.std.proofs.Common.{if◌then◌else◌, refl, sym, ap, subst}
use Rattle.std.proofs.lemmas.Bool.{false≢true, and_parts}
use Rattle.cl_model.specs.declared.program.Space.{Space}
use Rattle.cl_model.specs.declared.program.Space.TheVariants as spaces
use Rattle.cl_tree.specs.declared.tree.Form.TheVariants as forms
use Rattle.cl_tree.specs.Syntax.{Syntax, node, Forest, more}
use Rattle.cl_meaning.specs.Spelling.{dimensions_in, is_set}
use Rattle.cl_meaning.specs.Types.{space_among}
use Rattle.cl_meaning.specs.Declarations.{parts_of, star_in}
use Rattle.cl_meaning.specs.Kinds.{is_some}
use Rattle.cl_short_vec.specs.declared.types.Vector.{Vector}
use Rattle.cl_short_vec.specs.declared.roles.Around.{Around}
use Rattle.cl_short_vec.specs.declared.roles.Around.TheVariants as around
use Rattle.cl_short_vec.specs.declared.roles.Role.{Role}
use Rattle.cl_short_vec.specs.declared.roles.Role.TheVariants.{Declared}
use Rattle.cl_short_vec.specs.declared.refuse.VectorRefusal.{VectorRefusal}
use Rattle.cl_short_vec.specs.Types.{vector_type}
use Rattle.cl_short_vec.specs.Kinds.{Names, later}
use Rattle.cl_short_vec.specs.Marks.{Mark, mark, Marks, unmarked, marking, tree_at, kind_at, marked, marked_parts}
use Rattle.cl_short_vec.specs.Roles.{role_of, around_of}
use Rattle.cl_short_vec.specs.Faults.{is_private_at, is_placed, misplaced, no_component, types_differ, least, is_end}
use Rattle.cl_short_vec.specs.Faults.{refusal_at, refusals, refusals_in, told}
use Rattle.cl_short_vec_form.specs.Stored.{is_local}
use Rattle.cl_short_vec_form.specs.Law.{marks_of}
use Rattle.cl_short_vec_form.proofs.Roots.{tree_is}

-- ---- lists of refusals

not_nothing : (r : VectorRefusal) (rs : List VectorRefusal) → r ∷ rs ≡ [] → ⊥
not_nothing r rs e = false≢true (sym (ap some_there e))
  where
    some_there : List VectorRefusal → Bool
    some_there [] = false
    some_there (y ∷ ys) = true

nothing_front : (a b : List VectorRefusal) → a ++ b ≡ [] → a ≡ []
nothing_front [] b e = refl
nothing_front (r ∷ a) b e = absurd (not_nothing r (a ++ b) e)

nothing_behind : (a b : List VectorRefusal) → a ++ b ≡ [] → b ≡ []
nothing_behind [] b e = e
nothing_behind (r ∷ a) b e = absurd (not_nothing r (a ++ b) e)

least_nothing : (token : ℕ) (a b c : Bool) → least token a b c ≡ [] → a ≡ false
least_nothing token true b c e = absurd (not_nothing _ [] e)
least_nothing token false b c e = refl

pub none_told : (rs : List VectorRefusal) → told rs ≡ None → rs ≡ []
none_told [] e = refl
none_told (r ∷ rs) e = absurd (false≢true (sym (ap is_some e)))

-- ---- parts

-- nothing is refused of any of the parts, whatever their roles are
abbrev pub NoneRefused : Marks → Type 0
NoneRefused unmarked = Unit {0}
NoneRefused (marking m ms) = ((role : Role) × (refusals role m ≡ [])) × NoneRefused ms

none_in : (role : Role) (whole : Mark) (front : Bool) (ms : Marks) → refusals_in role whole front ms ≡ [] →
    NoneRefused ms
unfolding refusals_in
none_in role whole front unmarked e = tt
none_in role whole front (marking p ps) e =
    let r = role_of role whole front (is_end ps) p in (
      (r, nothing_front (refusals r p) (refusals_in role whole false ps) e),
      none_in role whole false ps (nothing_behind (refusals r p) (refusals_in role whole false ps) e),
    )

pub parts_unrefused : (role : Role) (m : Mark) → refusals role m ≡ [] → NoneRefused (marks_of m)
unfolding refusals
parts_unrefused role (mark t k ms) e = none_in role (mark t k ms) true ms
    (nothing_front (refusals_in role (mark t k ms) true ms) (refusal_at role (mark t k ms)) e)

-- the same of parts that have one role
abbrev pub NoneRefusedAs : Role → Marks → Type 0
NoneRefusedAs role unmarked = Unit {0}
NoneRefusedAs role (marking m ms) = (refusals role m ≡ []) × NoneRefusedAs role ms

none_as : (r role : Role) (whole : Mark) (ms : Marks) →
    ((y : Bool) (p : Mark) → role_of role whole false y p ≡ r) → refusals_in role whole false ms ≡ [] →
    NoneRefusedAs r ms
unfolding refusals_in
none_as r role whole unmarked g e = tt
none_as r role whole (marking p ps) g e =
    let here = refusals (role_of role whole false (is_end ps) p) p in
    let others = refusals_in role whole false ps in (
      subst (λ z. refusals z p ≡ []) (g (is_end ps) p) (nothing_front here others e),
      none_as r role whole ps g (nothing_behind here others e),
    )

-- ---- declarations

-- a declarator behind that vector type
abbrev pub behind_vector : Around → Vector → Option Space → Role
behind_vector a v space = Declared (record { around = a; vector = Some v; space = space })

pub declarators_unrefused : (role : Role) (names : Names) (w : List ℕ) (f l : ℕ) (type : Syntax) (ds : Forest) →
    refusals role (marked names (node forms.DeclareNode w f l (more type ds))) ≡ [] →
    NoneRefusedAs (Declared (record {
      around = around_of role;
      vector = vector_type (tree_at (marked names type));
      space = space_among (parts_of type);
    })) (marked_parts forms.DeclareNode (more type ds) (later forms.DeclareNode (more type ds) names true type)
    false ds)
unfolding refusals refusals_in role_of marked marked_parts
declarators_unrefused role names w f l type ds e =
    let m = marked names (node forms.DeclareNode w f l (more type ds)) in
    let n = later forms.DeclareNode (more type ds) names true type in
    let ms = marked_parts forms.DeclareNode (more type ds) n false ds in
    let first = refusals (role_of role m true (is_end ms) (marked names type)) (marked names type) in
    let all = refusals_in role m false ms in
    subst (λ z. NoneRefusedAs (Declared (record {
      around = around_of role;
      vector = vector_type (tree_at (marked names type));
      space = space_among (parts_of z);
    })) ms) (tree_is names type) (none_as (Declared (record {
      around = around_of role;
      vector = vector_type (tree_at (marked names type));
      space = space_among (parts_of (tree_at (marked names type)));
    })) role m ms (λ y p. refl) (nothing_behind first all (nothing_front (first ++ all) (refusal_at role m) e)))

not_true : (b : Bool) → not b ≡ false → b ≡ true
not_true true h = refl
not_true false h = absurd (false≢true (sym h))

declarator_placed : (a : Around) (v : Vector) (space : Option Space) (names : Names) (w : List ℕ) (f l : ℕ)
    (ps : Forest) → refusals (behind_vector a v space) (marked names (node forms.DeclaratorNode w f l ps)) ≡ [] →
    is_placed a space w ps ≡ true
unfolding refusals marked misplaced
declarator_placed a v space names w f l ps e =
    let d = node forms.DeclaratorNode w f l ps in
    let role = behind_vector a v space in
    let m = marked names d in
    let ms = marked_parts forms.DeclaratorNode ps names true ps in
    not_true (is_placed a space w ps) (least_nothing f (misplaced role d (kind_at m)) (no_component role m)
    (types_differ role d (kind_at m) ms) (nothing_behind (refusals_in role m true ms) (refusal_at role m) e))

private_not_local : (a : Around) (space : Option Space) → is_private_at a space ≡ true → is_local space ≡ false
private_not_local around.Unit space h = absurd (false≢true h)
private_not_local around.Block None h = refl
private_not_local around.Block (Some spaces.Private) h = refl
private_not_local around.Block (Some spaces.Global) h = absurd (false≢true h)
private_not_local around.Block (Some spaces.Constant) h = absurd (false≢true h)
private_not_local around.Block (Some spaces.Local) h = absurd (false≢true h)
private_not_local around.Head None h = refl
private_not_local around.Head (Some spaces.Private) h = refl
private_not_local around.Head (Some spaces.Global) h = absurd (false≢true h)
private_not_local around.Head (Some spaces.Constant) h = absurd (false≢true h)
private_not_local around.Head (Some spaces.Local) h = absurd (false≢true h)

-- A declarator of vectors without dimensions is no variable of a work-group, and one with some has no initialiser.
pub record Placed (space : Option Space) (w : List ℕ) : Type 0 where
  pub private : nat_eq (dimensions_in w) 0 ≡ true → is_local space ≡ false
  pub unset : nat_eq (dimensions_in w) 0 ≡ false → is_set w ≡ false

not_false : (b : Bool) → not b ≡ true → b ≡ false
not_false true h = absurd (false≢true h)
not_false false h = refl

pub vector_placed : (a : Around) (v : Vector) (space : Option Space) (names : Names) (w : List ℕ) (f l : ℕ)
    (ps : Forest) → refusals (behind_vector a v space) (marked names (node forms.DeclaratorNode w f l ps)) ≡ [] →
    Placed space w
vector_placed a v space names w f l ps e =
    let x = (and_parts (not (is_some (star_in ps))) _ (declarator_placed a v space names w f l ps e)).1 in
    record {
      private = λ z. private_not_local a space (subst (λ b. (if b then is_private_at a space else
          nat_eq (dimensions_in w) 1 && not (is_set w)) ≡ true) z x);
      unset = λ z. not_false (is_set w) (and_parts (nat_eq (dimensions_in w) 1) (not (is_set w)) (subst
          (λ b. (if b then is_private_at a space else nat_eq (dimensions_in w) 1 && not (is_set w)) ≡ true) z x)).1;
    }
