-- At the items of a unit in which nothing is refused no name stands for a vector.
use Rattle.std.proofs.Common.{◌≡◌, ℕ, nat_eq, List, [], Option, None, Some, Bool, true, false, not, ◌&&◌}
use Rattle.std.proofs.Common.{if◌then◌else◌, refl, ap, sym, subst, inl, inr, ◌⊎◌}
use Rattle.std.proofs.lemmas.Bool.{false≢true}
use Rattle.std.specs.Str.{bytes_eq}
use Rattle.cl_model.specs.declared.program.Space.{Space}
use Rattle.cl_tree.specs.declared.tree.Form.TheVariants as forms
use Rattle.cl_tree.specs.Syntax.{Syntax, node, Forest, none, more}
use Rattle.cl_meaning.specs.Spelling.{name_in, dimensions_in, is_set}
use Rattle.cl_meaning.specs.Types.{declared_in}
use Rattle.cl_meaning.specs.Declarations.{word_of, star_in}
use Rattle.cl_meaning.specs.Kinds.{is_some}
use Rattle.cl_check_sound.specs.Shape.{IsDeclaratorOf, AreDeclaratorsOf, IsDeclarationOf, IsFunctionOf, IsPrototypeOf}
use Rattle.cl_short_vec.specs.declared.types.Vector.{Vector}
use Rattle.cl_short_vec.specs.declared.kinds.Reach.TheVariants.{Variable}
use Rattle.cl_short_vec.specs.declared.kinds.Kind.{Kind}
use Rattle.cl_short_vec.specs.declared.kinds.Kind.TheVariants.{Vectors, Other}
use Rattle.cl_short_vec.specs.declared.roles.Around.TheVariants as around
use Rattle.cl_short_vec.specs.declared.roles.Role.{Role}
use Rattle.cl_short_vec.specs.declared.roles.Role.TheVariants.{Free, Outer, Declared}
use Rattle.cl_short_vec.specs.Types.{vector_type}
use Rattle.cl_short_vec.specs.Kinds.{Names, with_name, is_vector, is_variable, declared_kind, pointer_to}
use Rattle.cl_short_vec.specs.Kinds.{behind_declared, behind_declarator, behind_declarators}
use Rattle.cl_short_vec.specs.Kinds as kinds
use Rattle.cl_short_vec.specs.Marks.{Mark, Marks, unmarked, marking, kind_at, marked, marked_parts}
use Rattle.cl_short_vec.specs.Roles.{role_of, front_space}
use Rattle.cl_short_vec.specs.Faults.{is_end, is_placed, is_private_at, misplaced, refusals, refusals_in}
use Rattle.cl_short_vec_faults.proofs.Refused.{none_of, node_none}

abbrev pub NoVectors : Names → Type 0
NoVectors names = (q : List ℕ) → is_vector (names q) ≡ false

with_plain : (names : Names) (name : List ℕ) (k : Kind) → NoVectors names → is_vector k ≡ false →
    NoVectors (with_name names name k)
with_plain names name k n h q = by (bytes_eq name q)
  where
    by : (b : Bool) → is_vector (if b then k else names q) ≡ false
    by true = h
    by false = n q

-- ---- declarations of the unit

-- a declarator of a unit that is not refused is no variable of vectors
not_placed : (space : Option Space) (w : List ℕ) (ps : Forest) → not (is_placed around.Unit space w ps) ≡ false →
    is_variable w ps ≡ false
not_placed space w ps h = by (not (is_some (star_in ps))) (nat_eq (dimensions_in w) 0) h
  where
    by : (a b : Bool) →
        not (a && (if b then is_private_at around.Unit space else nat_eq (dimensions_in w) 1 && not (is_set w))) ≡
        false → (b && a) ≡ false
    by true true h = absurd (false≢true (sym h))
    by true false h = refl
    by false true h = refl
    by false false h = refl

abbrev declaring : Option Vector → Option Space → Role
declaring v space = Declared (record { around = around.Unit; vector = v; space = space })

declared_plain : (o : Option Vector) (space : Option Space) (names : Names) (type d : Syntax) → IsDeclaratorOf true d →
    refusals (declaring o space) (marked names d) ≡ [] → NoVectors names → NoVectors (behind_declared o names type d)
unfolding marked misplaced
declared_plain (Some v) space names type (node forms.DeclaratorNode w f l ps) h r n =
    let d = node forms.DeclaratorNode w f l ps in
    let x = node_none (declaring (Some v) space) d (kind_at (marked names d))
    (marked_parts forms.DeclaratorNode ps names true ps) r in
    with_plain names (name_in w) (declared_kind v type d) n
    (ap (λ b. is_vector (if b then Vectors v Variable else pointer_to v type)) (not_placed space w ps x.1))
declared_plain (Some v) space names type d h r n = absurd h
declared_plain None space names type d h r n = by (is_some (declared_in type))
  where
    by : (b : Bool) → NoVectors (if b then with_name names (name_in (word_of d)) (Other true) else names)
    by true = with_plain names (name_in (word_of d)) (Other true) n refl
    by false = n

declarators_plain : (type : Syntax) (space : Option Space) (m : Mark) (ds all : Forest) (names : Names) →
    AreDeclaratorsOf true ds →
    ((y : Bool) (p : Mark) → role_of Outer m false y p ≡ declaring (vector_type type) space) →
    refusals_in Outer m false (marked_parts forms.DeclareNode (more type all) names false ds) ≡ [] → NoVectors names →
    NoVectors (behind_declarators names type ds)
unfolding marked_parts refusals_in
declarators_plain type space m none all names h g r n = n
declarators_plain type space m (more d ds) all names h g r n =
    let o = vector_type type in
    let after = behind_declarator names type d in
    let ms = marked_parts forms.DeclareNode (more type all) after false ds in
    let role = role_of Outer m false (is_end ms) (marked names d) in
    let x = none_of (refusals role (marked names d)) (refusals_in Outer m false ms) r in
    declarators_plain type space m ds all after h.1 g x.1
    (declared_plain o space names type d h.0
    (subst (λ z. refusals z (marked names d) ≡ []) (g (is_end ms) (marked names d)) x.0) n)

pub declaration_plain : (names : Names) (t : Syntax) → IsDeclarationOf true t → refusals Outer (marked names t) ≡ [] →
    NoVectors names → NoVectors (kinds.behind names t)
unfolding refusals_in marked marked_parts role_of
declaration_plain names (node forms.DeclareNode w f l (more (node form w' f' l' ts) ds)) h r n =
    let type = node form w' f' l' ts in
    let t = node forms.DeclareNode w f l (more type ds) in
    let m = marked names t in
    let ms = marked_parts forms.DeclareNode (more type ds) names false ds in
    let role = role_of Outer m true (is_end ms) (marked names type) in
    let all = (node_none Outer t (kind_at m) (marking (marked names type) ms) r).0 in
    declarators_plain type (front_space (marking (marked names type) ms)) m ds ds names h.1 (λ y p. refl)
    (none_of (refusals role (marked names type)) (refusals_in Outer m false ms) all).1 n
declaration_plain names t h r n = absurd h

-- ---- items

pub item_plain : (names : Names) (t : Syntax) → IsFunctionOf true t ⊎ (IsPrototypeOf true t ⊎ IsDeclarationOf true t) →
    refusals Outer (marked names t) ≡ [] → NoVectors names → NoVectors (kinds.behind names t)
item_plain names (node forms.FunctionNode w f l parts) (inl h) r n = with_plain names (name_in w) (Other false) n refl
item_plain names (node forms.PrototypeNode w f l parts) (inr (inl h)) r n = n
item_plain names t (inr (inr h)) r n = declaration_plain names t h r n
item_plain names t (inl h) r n = absurd h
item_plain names t (inr (inl h)) r n = absurd h

-- nothing is refused in any of the items
abbrev pub ItemsStay : Marks → Type 0
ItemsStay unmarked = Unit {0}
ItemsStay (marking m ms) = (refusals Outer m ≡ []) × ItemsStay ms

items_in : (role : Role) (whole : Mark) (front : Bool) (ms : Marks) →
    ((x y : Bool) (p : Mark) → role_of role whole x y p ≡ Outer) → refusals_in role whole front ms ≡ [] → ItemsStay ms
unfolding refusals_in
items_in role whole front unmarked g e = tt
items_in role whole front (marking p ps) g e =
    let x = none_of (refusals (role_of role whole front (is_end ps) p) p) (refusals_in role whole false ps) e in
    (subst (λ z. refusals z p ≡ []) (g front (is_end ps) p) x.0, items_in role whole false ps g x.1)

pub items_stay : (names : Names) (w : List ℕ) (f l : ℕ) (items : Forest) →
    refusals Free (marked names (node forms.UnitNode w f l items)) ≡ [] →
    ItemsStay (marked_parts forms.UnitNode items names true items)
unfolding role_of marked
items_stay names w f l items r =
    let t = node forms.UnitNode w f l items in
    let ms = marked_parts forms.UnitNode items names true items in
    items_in Free (marked names t) true ms (λ x y p. refl) (node_none Free t (kind_at (marked names t)) ms r).0
