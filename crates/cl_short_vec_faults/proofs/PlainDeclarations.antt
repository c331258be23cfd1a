-- A declaration of no vectors is at fault only where its plain form is, and what is visible goes on side by side behind
-- it.
use Rattle.std.proofs.Common.{◌≡◌, ℕ, suc, List, [], length, Option, None, Some, Bool, true, false}
use Rattle.std.proofs.Common.{◌&&◌, if◌then◌else◌, refl, ap, sym, ◌∙◌, subst, arith}
use Rattle.cl_tree.specs.declared.tree.Form.TheVariants as forms
use Rattle.cl_tree.specs.Syntax.{Syntax, node, Forest, none, more, last_of}
use Rattle.cl_meaning.specs.Spelling.{name_in, is_set, declared_in}
use Rattle.cl_meaning.specs.Types.{space_among}
use Rattle.cl_meaning.specs.declared.types.Declared.{Declared}
use Rattle.cl_meaning.specs.declared.fault.Fault.{Fault}
use Rattle.cl_meaning.specs.declared.fault.Fault.TheVariants as faults
use Rattle.cl_meaning.specs.declared.kind.Kind.{Kind}
use Rattle.cl_meaning.specs.declared.kind.Role.TheVariants as roles
use Rattle.cl_meaning.specs.Environment.{Env}
use Rattle.cl_meaning.specs.Kinds.{is_some}
use Rattle.cl_meaning.specs.Declarations.{word_of, parts_of, form_of}
use Rattle.cl_meaning.specs.Visible.{Before, is_front, inside, later, behind_type, closed, behind, behind_parts}
use Rattle.cl_meaning.specs.Visible.{kind_of}
use Rattle.cl_meaning.specs.Faults.{Asked, at_fault, looked_at, misfits}
use Rattle.cl_check_sound.specs.Shape.{IsType, AreDeclaratorsOf}
use Rattle.cl_check_sound.specs.Sound.{SoundTree, SoundParts}
use Rattle.cl_check_sound.proofs.Growth.{type_next}
use Rattle.cl_check_sound.proofs.Parts.{typed_env, declare_behind, declare_sound}
use Rattle.cl_check_sound.proofs.Typed.{type_declares}
use Rattle.cl_short_vec.specs.declared.types.Vector.{Vector}
use Rattle.cl_short_vec.specs.declared.kinds.Kind.TheVariants.{Other}
use Rattle.cl_short_vec.specs.declared.roles.Role.{Role}
use Rattle.cl_short_vec.specs.declared.roles.Role.TheVariants.{Free, Declared as DeclaredRole}
use Rattle.cl_short_vec.specs.declared.roles.Declaration.{Declaration}
use Rattle.cl_short_vec.specs.Types.{vector_type}
use Rattle.cl_short_vec.specs.Kinds as kinds
use Rattle.cl_short_vec.specs.Kinds.{Names, with_name, is_variable, behind_declarator, behind_declarators}
use Rattle.cl_short_vec.specs.Marks.{Mark, Marks, unmarked, marking, tree_at, kind_at, marked, marked_parts}
use Rattle.cl_short_vec.specs.Roles.{role_of, initial_role, initial_at, declaration_of}
use Rattle.cl_short_vec.specs.Faults.{refusals, refusals_in, is_end}
use Rattle.cl_short_vec.specs.Scalar.{scalar, scalars}
use Rattle.cl_short_vec_faults.specs.PlainForm.{plain_of, plains_of}
use Rattle.cl_short_vec_faults.specs.Plainly.{NoPoints}
use Rattle.cl_short_vec_faults.specs.Law.{ExpressionsFollow}
use Rattle.cl_short_vec_faults.specs.SoundBut.{SoundBut, AllSoundBut, is_of_size}
use Rattle.cl_short_vec_faults.specs.Beside.{Beside}
use Rattle.cl_short_vec_faults.specs.UnitLaw.{AllDeclaredNames}
use Rattle.cl_short_vec_faults.proofs.Following.{Stands}
use Rattle.cl_short_vec_faults.proofs.Ordered.{ordered_le}
use Rattle.cl_short_vec_faults.proofs.Refused.{AllStay, none_of, node_none, parts_stay}
use Rattle.cl_short_vec_faults.proofs.PlainForms.{type_plain}
use Rattle.cl_short_vec_faults.proofs.ConstantsSame.{type_same}
use Rattle.cl_short_vec_faults.proofs.Made.{type_good, spaced_good}
use Rattle.cl_short_vec_faults.proofs.Prefixes.{type_kept}
use Rattle.cl_short_vec_faults.proofs.LineAdds.{take_same}
use Rattle.cl_short_vec_faults.proofs.HolderParts.{sound_but, scalar_declarator}
use Rattle.cl_short_vec_faults.proofs.BesideMoves.{beside_later, beside_marked}
use Rattle.cl_short_vec_faults.proofs.PlainDeclarators.{Walks, walks_same, walks_then, plain_declarator}

-- ---- what is not refused

pub tree_is : (names : Names) (t : Syntax) → tree_at (marked names t) ≡ t
unfolding marked
tree_is names (node form w f l parts) = refl

-- nothing is refused in any of the parts, which have that role
abbrev pub AllStayAs : Role → Marks → Type 0
AllStayAs role unmarked = Unit {0}
AllStayAs role (marking m ms) = (refusals role m ≡ []) × AllStayAs role ms

stay_as : (r role : Role) (whole : Mark) (ms : Marks) →
    ((y : Bool) (p : Mark) → role_of role whole false y p ≡ r) → refusals_in role whole false ms ≡ [] → AllStayAs r ms
unfolding refusals_in
stay_as r role whole unmarked g e = tt
stay_as r role whole (marking p ps) g e =
    let d = none_of (refusals (role_of role whole false (is_end ps) p) p) (refusals_in role whole false ps) e in
    (subst (λ z. refusals z p ≡ []) (g (is_end ps) p) d.0, stay_as r role whole ps g d.1)

-- what a declaration says to its declarators
abbrev pub said : Role → Names → (type : Syntax) (ds : Forest) → Declaration
said role names type ds = declaration_of role (marked_parts forms.DeclareNode (more type ds) names true (more type ds))

pub said_vector : (role : Role) (names : Names) (type : Syntax) (ds : Forest) →
    (said role names type ds).vector ≡ vector_type type
unfolding marked_parts
said_vector role names type ds = ap vector_type (tree_is names type)

pub said_space : (role : Role) (names : Names) (type : Syntax) (ds : Forest) →
    (said role names type ds).space ≡ space_among (parts_of type)
unfolding marked_parts
said_space role names type ds = ap (λ z. space_among (parts_of z)) (tree_is names type)

pub declaration_stays : (role : Role) (names : Names) (w : List ℕ) (f l : ℕ) (type : Syntax) (ds : Forest) →
    refusals role (marked names (node forms.DeclareNode w f l (more type ds))) ≡ [] →
    AllStayAs (DeclaredRole (said role names type ds))
    (marked_parts forms.DeclareNode (more type ds) names false ds)
unfolding refusals_in role_of marked marked_parts
declaration_stays role names w f l type ds r =
    let t = node forms.DeclareNode w f l (more type ds) in
    let m = marked names t in
    let mds = marked_parts forms.DeclareNode (more type ds) names false ds in
    let ms = marking (marked names type) mds in
    let q = (node_none role t (kind_at m) ms r).0 in
    stay_as (DeclaredRole (said role names type ds)) role m mds (λ y p. refl)
    (none_of (refusals (role_of role m true (is_end mds) (marked names type)) (marked names type))
    (refusals_in role m false mds) q).1

-- the parts of a declarator, where no vector variable has an initialiser
pub declarator_free : (d : Declaration) (names : Names) (w : List ℕ) (f l : ℕ) (ps : Forest) →
    (is_variable w ps && is_some d.vector) ≡ false →
    refusals (DeclaredRole d) (marked names (node forms.DeclaratorNode w f l ps)) ≡ [] →
    AllStay (marked_parts forms.DeclaratorNode ps names true ps)
unfolding role_of marked
declarator_free d names w f l ps e r =
    let t = node forms.DeclaratorNode w f l ps in
    let ms = marked_parts forms.DeclaratorNode ps names true ps in
    parts_stay (DeclaredRole d) t (kind_at (marked names t)) ms (λ x y p. by (y && is_set w)) r
  where
    by : (b : Bool) → (if b then initial_role (DeclaredRole d) (is_variable w ps) else Free) ≡ Free
    by false = refl
    by true = ap (λ z. if z then initial_at d.around else Free) e

-- ---- types

-- a type is at fault by its own words alone
pub type_sound : (asked : Asked) (p s : Env) (t : Syntax) → IsType t → SoundTree asked p roles.Other t →
    SoundTree asked s roles.Other t
type_sound asked p s (node forms.TypeNode w f l none) h so = type_good asked s w f l (so.1.0 faults.OutsideType)
type_sound asked p s (node forms.TypeNode w f l (more (node forms.SpaceNode w' f' l' none) none)) h so =
    spaced_good asked s w f l w' f' l' (so.1.0 faults.OutsideType)
type_sound asked p s t h so = absurd h

-- ---- a declaration

-- it is at fault at its parts alone
pub declaration_sound : (asked : Asked) (s : Env) (w : List ℕ) (f l : ℕ) (T : Syntax) (S : Forest) → IsType T →
    SoundTree asked s roles.Other T → AllSoundBut asked (typed_env s T) forms.DeclareNode (Some (last_of T)) S →
    SoundBut asked s roles.Other (node forms.DeclareNode w f l (more T S))
unfolding inside misfits
declaration_sound asked s w f l T S h so x = (
  (
    sound_but asked s roles.Other T so,
    subst (λ z. AllSoundBut asked z forms.DeclareNode (Some (last_of T)) S)
        (sym (type_next s true T (kind_of s T) h)) x,
  ),
  (by, tt),
)
  where
    by : (k : Fault) → is_of_size k ≡ false →
        at_fault asked (looked_at s roles.Other (node forms.DeclareNode w f l (more T S))) k ≡ false
    by faults.UnknownName e = refl
    by _ e = refl

-- behind the type
pub beside_typed : (asked : Asked) (names : Names) (n : ℕ) (p s : Env) (T : Syntax) → Beside asked names n p s →
    Beside asked names n (typed_env p T) (typed_env s T)
beside_typed asked names n p s T h = let x = h.plainly in
    beside_marked asked names n p s (typed_env p T) (typed_env s T) refl refl refl refl x.owner refl x.flags
    h.unflagged x.in_body
    x.in_loop x.in_switch x.labels x.arrays x.tables h

-- and out of the declaration, where the scopes are as many
pub beside_declared : (asked : Asked) (names after : Names) (n m : ℕ) (p s ip is : Env) → Beside asked names n p s →
    Beside asked after m ip is → length ip.scopes ≡ length p.scopes → Beside asked after m (closed p ip) (closed s is)
beside_declared asked names after n m p s ip is h i e =
    let x = h.plainly in
    let y = i.plainly in
    beside_marked asked after m ip is (closed p ip) (closed s is) (take_same p.scopes ip.scopes e)
    (take_same s.scopes is.scopes (y.depth ∙ (e ∙ sym x.depth))) refl refl x.owner x.declared x.flags h.unflagged
    x.in_body
    x.in_loop x.in_switch y.labels y.arrays y.tables i

-- ---- declarators of no vectors

-- such a declarator hides its name
behind_other : (names : Names) (type d : Syntax) → vector_type type ≡ None → is_some (declared_in type) ≡ true →
    behind_declarator names type d ≡ with_name names (name_in (word_of d)) (Other true)
behind_other names type d v e =
    ap (λ o. kinds.behind_declared o names type d) v ∙
    ap (λ b. if b then with_name names (name_in (word_of d)) (Other true) else names) e

pub no_parts : (env : Env) (b : Bool) → behind_parts env forms.DeclareNode b none ≡ env
unfolding behind_parts
no_parts env b = refl

-- what a declaration passes on behind a declarator
pub declarators_next : (env : Env) (b : Bool) (t : Syntax) (k : Option Kind) → form_of t ≡ forms.DeclaratorNode →
    later env forms.DeclareNode b t k ≡ env
unfolding later
declarators_next env b t k e = ap (λ z. behind_type env z t) e

pub declarators_behind : (env : Env) (b : Bool) (t : Syntax) (ds : Forest) → form_of t ≡ forms.DeclaratorNode →
    behind_parts env forms.DeclareNode b (more t ds) ≡ behind_parts (behind env t) forms.DeclareNode false ds
unfolding behind_parts
declarators_behind env b t ds e = ap (λ z. behind_parts z forms.DeclareNode false ds)
    (declarators_next (behind env t) b t (kind_of env t) e)

-- nothing is refused of a declaration, whose type is no vector
no_vector : (b : Bool) (o : Option Vector) → o ≡ None → (b && is_some o) ≡ false
no_vector true o e = ap is_some e
no_vector false o e = refl

module _ (follow : ExpressionsFollow) (asked : Asked) (n : ℕ) (d : Declared) (type : Syntax)
    (no : vector_type type ≡ None) (some : is_some (declared_in type) ≡ true) (said : Declaration)
    (said_no : said.vector ≡ None) where
  pub plain_declarators : (ds all : Forest) (names : Names) (p s : Env) (bp bs : Before) (fp fs : Bool) →
      AreDeclaratorsOf true ds → NoPoints ds → AllDeclaredNames ds →
      AllStayAs (DeclaredRole said) (marked_parts forms.DeclareNode (more type all) names false ds) →
      Beside asked names n p s → p.declared ≡ Some d → SoundParts asked p forms.DeclareNode bp (plains_of ds) →
      AllSoundBut asked s forms.DeclareNode bs
      (scalars (marked_parts forms.DeclareNode (more type all) names false ds)) ×
      Beside asked (behind_declarators names type ds) n (behind_parts p forms.DeclareNode fp (plains_of ds))
      (behind_parts s forms.DeclareNode fs
      (scalars (marked_parts forms.DeclareNode (more type all) names false ds))) ×
      Walks p (behind_parts p forms.DeclareNode fp (plains_of ds))
  unfolding marked_parts scalars plain_of plains_of
  plain_declarators none all names p s bp bs fp fs h np dn r be typed so = (
    tt,
    subst (λ z. Beside asked names n z (behind_parts s forms.DeclareNode fs none)) (sym (no_parts p fp))
        (subst (λ z. Beside asked names n p z) (sym (no_parts s fs)) be),
    subst (Walks p) (sym (no_parts p fp)) (walks_same p),
  )
  plain_declarators (more (node forms.DeclaratorNode w f l ps) ds) all names p s bp bs fp fs h np dn r be typed so =
      let t = node forms.DeclaratorNode w f l ps in
      let P = node forms.DeclaratorNode w f l (plains_of ps) in
      let S = scalar (marked names t) in
      let after = behind_declarator names type t in
      let S' = scalars (marked_parts forms.DeclareNode (more type all) after false ds) in
      let e : form_of S ≡ forms.DeclaratorNode = ap form_of (scalar_declarator names w f l ps) in
      let p' = behind p P in
      let s' = behind s S in
      let x = plain_declarator follow asked names n p s be d typed w f l ps h.0 np.0.1 dn.0.0
      (declarator_free said names w f l ps (no_vector (is_variable w ps) said.vector said_no) r.0) so.0 in
      let be' = subst (λ z. Beside asked z n p' s') (sym (behind_other names type t no some)) x.1 in
      let so' = subst (λ z. SoundParts asked z forms.DeclareNode (Some l) (plains_of ds))
      (declarators_next p' (is_front bp) P (kind_of p P) refl) so.1 in
      let y = plain_declarators ds all after p' s' (Some l) (Some (last_of S)) false false h.1 np.1 dn.1 r.1 be'
      (x.2.declared' ∙ typed) so' in
      let ep = sym (declarators_behind p fp P (plains_of ds) refl) in
      let es = sym (declarators_behind s fs S S' e) in (
        (
          x.0,
          subst (λ z. AllSoundBut asked z forms.DeclareNode (Some (last_of S)) S')
              (sym (declarators_next s' (is_front bs) S (kind_of s S) e)) y.0,
        ),
        subst (λ z. Beside asked (behind_declarators after type ds) n z
            (behind_parts s forms.DeclareNode fs (more S S'))) ep
            (subst (λ z. Beside asked (behind_declarators after type ds) n
            (behind_parts p' forms.DeclareNode false (plains_of ds)) z) es y.1),
        subst (Walks p) ep (walks_then p p' (behind_parts p' forms.DeclareNode false (plains_of ds)) x.2 y.2),
      )
  plain_declarators (more t ds) all names p s bp bs fp fs h np dn r be typed so = absurd h.0

-- the one node that stands for a declaration of no vectors
abbrev pub kept_declaration : Names → (w : List ℕ) (f l : ℕ) (type : Syntax) (ds : Forest) → Syntax
kept_declaration names w f l type ds = node forms.DeclareNode w f l (more (scalar (marked names type))
    (scalars (marked_parts forms.DeclareNode (more type ds) names false ds)))

pub plain_declaration : (follow : ExpressionsFollow) (asked : Asked) (names : Names) (bound : ℕ) (plain form : Env)
    (role : Role) (w : List ℕ) (f l : ℕ) (type : Syntax) (ds : Forest) → IsType type → AreDeclaratorsOf true ds →
    vector_type type ≡ None →
    Stands asked names bound plain form role roles.Other (node forms.DeclareNode w f l (more type ds)) →
    SoundBut asked form roles.Other (kept_declaration names w f l type ds) ×
    Beside asked (behind_declarators names type ds) (suc l)
    (behind plain (plain_of (node forms.DeclareNode w f l (more type ds))))
    (behind form (kept_declaration names w f l type ds))
unfolding plain_of plains_of
plain_declaration follow asked names bound plain form role w f l type ds h hs none' st =
    let t = node forms.DeclareNode w f l (more type ds) in
    let T = plain_of type in
    let T' = scalar (marked names type) in
    let P = plains_of ds in
    let S = scalars (marked_parts forms.DeclareNode (more type ds) names false ds) in
    let hT = type_plain type h in
    let e = type_same names type h in
    let kept = (type_kept type names h none').1 in
    let so = declare_sound asked plain roles.Other w f l T P hT st.sound in
    let d = type_declares asked plain roles.Other T hT so.0 in
    let le = ordered_le t st.ordered in
    let b = st.behind' in
    let be = beside_later asked names bound (suc l) plain form (omega arith) st.beside in
    let said' = said role names type ds in
    let x = plain_declarators follow asked (suc l) d.0 type none' (ap (λ z. is_some (declared_in z)) (sym kept) ∙
    ap is_some d.1) said' (said_vector role names type ds ∙ none') ds ds names (typed_env plain T) (typed_env form T)
    (Some (last_of T)) (Some (last_of T)) false false hs st.no_point.1.1 st.declared.1.1
    (declaration_stays role names w f l type ds st.stays) (beside_typed asked names (suc l) plain form T be) d.1
    so.1 in
    let after = behind_declarators names type ds in
    let ip = behind_parts (typed_env plain T) forms.DeclareNode false P in
    let is = behind_parts (typed_env form T) forms.DeclareNode false S in
    let goes = beside_declared asked names after (suc l) (suc l) plain form ip is be x.1 x.2.depth in
    subst (λ z. SoundBut asked form roles.Other (node forms.DeclareNode w f l (more z S)) ×
    Beside asked after (suc l) (behind plain (node forms.DeclareNode w f l (more T P)))
    (behind form (node forms.DeclareNode w f l (more z S)))) (sym e) (
      declaration_sound asked form w f l T S hT (type_sound asked plain form T hT so.0) x.0,
      subst (λ z. Beside asked after (suc l) z (behind form (node forms.DeclareNode w f l (more T S))))
          (sym (declare_behind plain w f l T P hT)) (subst (λ z. Beside asked after (suc l) (closed plain ip) z)
          (sym (declare_behind form w f l T S hT)) goes),
    )
