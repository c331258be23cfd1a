-- What is in hand behind the first part of a `for`.
use Rattle.std.proofs.Common.{◌≡◌, ℕ, ◌≤◌, nat_eq, List, [], ◌∷◌, ◌++◌, Option, None, Some, Bool, true, false}
use Rattle.std.proofs.Common.{if◌then◌else◌, refl, ap, sym, ◌∙◌, subst, inl, inr, ◌⊎◌}
use Rattle.cl_model.specs.Tree.{Function, Program}
use Rattle.cl_model.specs.declared.program.Space.{Space}
use Rattle.cl_model.specs.declared.program.Space.TheVariants as spaces
use Rattle.cl_tree.specs.declared.tree.Form.TheVariants as forms
use Rattle.cl_tree.specs.Syntax.{Syntax, node, Forest, none, more, joined}
use Rattle.cl_meaning.specs.Spelling.{name_in, is_const}
use Rattle.cl_meaning.specs.Types.{space_among}
use Rattle.cl_meaning.specs.declared.types.Declared.{Declared}
use Rattle.cl_meaning.specs.declared.kind.Kind.{Kind}
use Rattle.cl_meaning.specs.declared.kind.Meaning.{Meaning}
use Rattle.cl_meaning.specs.declared.kind.Role.{Role}
use Rattle.cl_meaning.specs.Declarations.{Declarator, declarator_in, word_of, parts_of, kept_in, with_array}
use Rattle.cl_meaning.specs.Declarations.{with_scalar}
use Rattle.cl_meaning.specs.Declarations.{with_elements, with_declarator, dims_of, or_none, firm, last_kind}
use Rattle.cl_meaning.specs.Environment.{Env, Variable, Array, at_unit, into_last}
use Rattle.cl_meaning.specs.Visible.{behind, behind_parts, later, closed, kind_of, kinds_of}
use Rattle.cl_meaning.specs.Faults.{Asked}
use Rattle.cl_check_sound.specs.Shape.{IsType, IsDeclarationOf, IsSimpleOf, IsSimple, IsDeclarator}
use Rattle.cl_check_sound.specs.Shape.{AreDeclarators, AreDeclaratorsOf}
use Rattle.cl_check_sound.specs.Sound.{SoundTree}
use Rattle.cl_check_sound.proofs.Grown.{is_deep, deep_outer, outer_whole}
use Rattle.cl_check_sound.proofs.Growth.{declarator_leaves, declaration_grows, simple_leaves}
use Rattle.cl_check_sound.proofs.Facing.{Finals}
use Rattle.cl_check_sound.proofs.Declarators.{declare_leaves, declaration_line}
use Rattle.cl_check_sound.proofs.Parts.{typed_env, declare_behind}
use Rattle.cl_short_vec.specs.declared.types.Vector.{Vector}
use Rattle.cl_short_vec.specs.declared.roles.Around.TheVariants as around
use Rattle.cl_short_vec.specs.declared.roles.Role.TheVariants.{Head, Declared as DeclaredRole}
use Rattle.cl_short_vec.specs.Types.{numbers, vector_type}
use Rattle.cl_short_vec.specs.Kinds.{Names, is_variable, behind_declared, behind_declarator, behind_declarators}
use Rattle.cl_short_vec.specs.Kinds as kinds
use Rattle.cl_short_vec.specs.Marks.{tree_at, marked, marked_parts}
use Rattle.cl_short_vec.specs.Faults.{refusals}
use Rattle.cl_short_vec.specs.Nodes.{component_name}
use Rattle.cl_short_vec.specs.Scalar.{scalar, scalars}
use Rattle.cl_short_vec.specs.Unit.{declared_name, component_declarators, declarators_by}
use Rattle.cl_short_vec.specs.Unit.{all_declarators, declaration_by, scalarised}
use Rattle.cl_short_vec.proofs.Small.{SmallNames, SmallVector, marked_small, behind_small, type_small}
use Rattle.cl_short_vec.proofs.Small.{behind_declarator_small}
use Rattle.cl_short_vec_correct.proofs.Scalars.{type_is}
use Rattle.cl_short_vec_correct.proofs.FormDeclarations.{vector_declarator, vector_declarators}
use Rattle.cl_short_vec_correct.proofs.FormUnits.{whole_declaration, simple_is}
use Rattle.cl_short_vec.proofs.OwnNames.{front_blank}
use Rattle.cl_short_vec_correct.proofs.LineWords.{declared_with}
use Rattle.cl_short_vec_correct.proofs.Says.{Own, AllOwn, Says, OwnNames, Tells, says_same}
use Rattle.cl_short_vec_correct.proofs.Whole.{behind_whole}
use Rattle.cl_short_vec_correct.proofs.Reaches.{behind_named}
use Rattle.cl_short_vec_correct.proofs.KnownNames.{declared_known}
use Rattle.cl_short_vec_correct.proofs.Stands.{Stands, Ends}
use Rattle.cl_short_vec_correct.proofs.Moves.{stands_line}
use Rattle.cl_short_vec_correct.proofs.Forms.{first_of_for}
use Rattle.cl_short_vec_correct.proofs.Behind.{declarators_other, declarators_tell, outer_of}
use Rattle.cl_short_vec_correct.proofs.Declares.{all_among, components_plain, components_among}
use Rattle.cl_short_vec_correct.proofs.Spoken.{says_vector, type_tells, placed_private, head_private}
use Rattle.cl_short_vec_correct.proofs.Spoken.{by_apart, by_components}
use Rattle.cl_short_vec_correct.proofs.Initials.{tree_is, declaring, declarator_stays}
use Rattle.cl_short_vec_correct.proofs.Declarations.{owns_declarators, plain_says}
use Rattle.cl_short_vec_correct.proofs.BlockDeclarations.{small_parts, AllStayAs, declaration_stays}

-- ---- the type of a declaration stays

array_keeps : (env : Env) (a : Array) (bytes : List ℕ) (m : Meaning) →
    (with_array env a bytes m).declared ≡ env.declared
array_keeps env a bytes m = by (at_unit env)
  where
    by : (b : Bool) → (if b
        then record env {
          tables = env.tables ++ record { array = a; bytes = bytes } ∷ [];
          scopes = into_last env.scopes a.name (firm m);
        }
        else record env { arrays = env.arrays ++ a ∷ []; scopes = into_last env.scopes a.name (firm m) }).declared ≡
        env.declared
    by true = refl
    by false = refl

scalar_keeps : (env : Env) (d : Declared) (x : Declarator) (s : Space) → (with_scalar env d x s).declared ≡ env.declared
scalar_keeps env d x spaces.Private = refl
scalar_keeps env d x spaces.Global = array_keeps env _ _ _
scalar_keeps env d x spaces.Constant = array_keeps env _ _ _
scalar_keeps env d x spaces.Local = array_keeps env _ _ _

declarator_keeps : (env : Env) (o : Option Declared) (x : Declarator) (k : Option Kind) →
    (with_declarator env o x k).declared ≡ env.declared
declarator_keeps env None x k = refl
declarator_keeps env (Some d) x k = by x.star
  where
    plain : (b : Bool) → (if b then with_scalar env d (record x { star = None }) (kept_in env d) else
        with_elements env d (record x { star = None }) (kept_in env d) (or_none (dims_of x))).declared ≡ env.declared
    plain true = scalar_keeps env d (record x { star = None }) (kept_in env d)
    plain false = array_keeps env _ _ _

    by : (star : Option Bool) → (with_declarator env (Some d) (record x { star = star }) k).declared ≡ env.declared
    by (Some fixed) = refl
    by None = plain (nat_eq x.dimensions 0)

one_keeps : (env : Env) (t : Syntax) → IsDeclarator t → (behind env t).declared ≡ env.declared
one_keeps env (node forms.DeclaratorNode w f l parts) h =
    ap (λ (z : Env). z.declared) (declarator_leaves env w f l parts h) ∙
    declarator_keeps env env.declared (declarator_in w f parts)
    (last_kind (kinds_of env forms.DeclaratorNode true parts))
one_keeps env t h = absurd h

no_declarator : (env : Env) → behind_parts env forms.DeclareNode false none ≡ env
unfolding behind_parts
no_declarator env = refl

all_keep : (env : Env) (ds : Forest) → AreDeclarators ds →
    (behind_parts env forms.DeclareNode false ds).declared ≡ env.declared
all_keep env none h = ap (λ (z : Env). z.declared) (no_declarator env)
all_keep env (more p ps) h =
    ap (λ (z : Env). z.declared) (declare_leaves env false p ps h.0) ∙
    (all_keep (behind env p) ps h.1 ∙ one_keeps env p h.0)

joined_declare : (a b : Forest) (env : Env) → behind_parts env forms.DeclareNode false (joined a b) ≡
    behind_parts (behind_parts env forms.DeclareNode false a) forms.DeclareNode false b
unfolding behind_parts
joined_declare none b env = refl
joined_declare (more p ps) b env = joined_declare ps b (later (behind env p) forms.DeclareNode false p (kind_of env p))

-- ---- declarators of vectors, in one node

module _ (v : Vector) (outer : Names) (type : Syntax) (typed : IsType type) (vector : vector_type type ≡ Some v)
    (few : v.count ≤ 16) where
  -- what their type declares
  abbrev components : Declared
  components = declared_with (space_among (parts_of type)) (is_const (word_of type)) v.of

  pub all_say : (ds all : Forest) (names : Names) (env : Env) → env.declared ≡ Some components →
      is_deep env.scopes ≡ true → AreDeclaratorsOf true ds → AllOwn ds →
      AllStayAs (declaring around.Head v (space_among (parts_of type)))
      (marked_parts forms.DeclareNode (more type all) names false ds) → Says names env → OwnNames names →
      SmallNames names → Says (behind_declarators names type ds) (behind_parts env forms.DeclareNode false
      (all_declarators v (marked_parts forms.DeclareNode (more type all) names false ds)))
  unfolding marked marked_parts
  all_say none all names env e dp h ow r s own sm = subst (Says names) (sym (no_declarator env)) s
  all_say (more (node forms.DeclaratorNode w f l ps) ds) all names env e dp h ow r s own sm =
      let d = node forms.DeclaratorNode w f l ps in
      let after = behind_declarator names type d in
      let ms = marked_parts forms.DeclaratorNode ps names true ps in
      let these = declarators_by v d ms in
      let others = all_declarators v (marked_parts forms.DeclareNode (more type all) after false ds) in
      let mid = behind_parts env forms.DeclareNode false these in
      let are = vector_declarator v d names few (marked_small d names sm) h.0 in
      let stays = declarator_stays around.Head v (space_among (parts_of type)) names w f l ps r.0 in
      let b = front_blank w in
      let x = declared_name d in
      let cs = numbers 0 1 v.count in
      let says = says_vector names env mid v type d s own
      (λ n o a c. (declarators_other env these (component_name n c) are dp (by_apart v d ms n c ow.0.0 o a)).1)
      (λ va c i. subst (λ y. Tells (behind_parts env forms.DeclareNode false y).scopes v.of
      (component_name (name_in w) c)) (sym (by_components v d ms va))
      (declarators_tell env components (component_declarators x cs) (component_name (name_in w) c)
      (components_plain x cs b) e dp (head_private (space_among (parts_of type))
      (placed_private around.Head (space_among (parts_of type)) w ps stays.placed va))
      (inl (components_among x cs (component_name (name_in w) c) b (all_among (name_in w) v.count c i))))) in
      let says' = subst (λ o. Says (behind_declared o names type d) mid) (sym vector) says in
      subst (Says (behind_declarators after type ds)) (sym (joined_declare these others env))
      (all_say ds all after mid (all_keep env these are ∙ e)
      (deep_outer env.scopes mid.scopes dp (outer_of env these are))
      h.1 ow.1 r.1 says' (owns_declarators names type (more d none) own (ow.0, tt) (h.0, tt))
      (behind_declarator_small names type d sm))
  all_say (more d ds) all names env e dp h ow r s own sm = absurd h.0

  pub vectors_say : (names : Names) (env : Env) (w : List ℕ) (f l : ℕ) (ds : Forest) → is_deep env.scopes ≡ true →
      AreDeclaratorsOf true ds → AllOwn ds →
      AllStayAs (declaring around.Head v (space_among (parts_of type)))
      (marked_parts forms.DeclareNode (more type ds) names false ds) → Says names env → OwnNames names →
      SmallNames names → Says (behind_declarators names type ds) (behind env (node forms.DeclareNode w f l
      (more (scalar (marked outer type))
      (all_declarators v (marked_parts forms.DeclareNode (more type ds) names false ds)))))
  vectors_say names env w f l ds dp h ow r s own sm =
      let t = scalar (marked outer type) in
      let all = all_declarators v (marked_parts forms.DeclareNode (more type ds) names false ds) in
      let i = typed_env env t in
      let inner = behind_parts i forms.DeclareNode false all in
      let tys = type_is type outer typed in
      let are = vector_declarators v forms.DeclareNode (more type ds) names false ds few
      (small_parts forms.DeclareNode (more type ds) names false ds sm) h in
      subst (Says (behind_declarators names type ds)) (sym (declare_behind env w f l t all tys))
      (says_same (behind_declarators names type ds) inner (closed env inner)
      (outer_whole env.scopes inner.scopes (outer_of i all are))
      (all_say ds ds names i (type_tells outer type v typed vector) dp h ow r s own sm))

-- ---- the first part of a `for`

simple_same : (env : Env) (t : Syntax) → IsSimple t → behind env t ≡ env
simple_same env (node forms.SimpleNode w f l parts) h = simple_leaves env w f l parts h
simple_same env t h = absurd h

module _ (P : Program) (f : Function) (asked : Asked) (vars : List Variable) (arrs : List Array)
    (fin : Finals f vars arrs) where
  abbrev There : Names → Env → Type 0
  There = Stands P f asked vars arrs

  abbrev Ending : Env → Type 0
  Ending = Ends P f asked vars arrs

  head_says : (names : Names) (env : Env) (w : List ℕ) (f' l : ℕ) (type : Syntax) (ds : Forest) → IsType type →
      AreDeclaratorsOf true ds → AllOwn ds → There names env → (o : Option Vector) → SmallVector o →
      vector_type type ≡ o →
      AllStayAs (DeclaredRole (record { around = around.Head; vector = o; space = space_among (parts_of type) }))
      (marked_parts forms.DeclareNode (more type ds) names false ds) →
      Says (behind_declarators names type ds) (behind env (node forms.DeclareNode w f' l
      (declaration_by o (marked names type) (marked_parts forms.DeclareNode (more type ds) names false ds))))
  unfolding scalars
  head_says names env w f' l type ds h k ow st None few v r =
      plain_says names names env w f' l type ds (more type ds) h k ow
      (small_parts forms.DeclareNode (more type ds) names false ds st.small) v st.here.within.deep st.says st.own
  head_says names env w f' l type ds h k ow st (Some u) few v r =
      vectors_say u names type h v few names env w f' l ds st.here.within.deep k ow r st.says st.own st.small

  pub first_stands : (names : Names) (env : Env) (role : Role) (d : Syntax) →
      IsDeclarationOf true d ⊎ IsSimpleOf true d → Own d → refusals Head (marked names d) ≡ [] → There names env →
      SoundTree asked env role (first_of_for P names d) → Ending (behind env (first_of_for P names d)) →
      There (kinds.behind names d) (behind env (first_of_for P names d))
  unfolding marked marked_parts scalarised
  first_stands names env role (node forms.DeclareNode w f' l (more type ds)) (inl h) ow r st s e =
      let d = node forms.DeclareNode w f' l (more type ds) in
      let d' = scalarised (marked names d) in
      let hd = whole_declaration d names (marked_small d names st.small) h in
      let deep = st.here.within.deep in
      let o = vector_type (tree_at (marked names type)) in
      let says = head_says names env w f' l type ds h.0 h.1 ow.1.1 st o (type_small (tree_at (marked names type)))
      (ap vector_type (sym (tree_is names type))) (declaration_stays Head names w f' l type ds r) in
      stands_line P f asked vars arrs names (behind_declarators names type ds) env (behind env d') _
      (declaration_grows asked env role d' hd s deep) st
      (declaration_line P f asked vars arrs st.scope env [] role d' hd s deep st.here.at fin e.0 e.1) says
      (owns_declarators names type ds st.own ow.1.1 h.1) (behind_small names d st.small) (behind_whole names d st.whole)
      (behind_named names d st.named) (declared_known env d' hd deep st.known)
  first_stands names env role (node forms.SimpleNode w f' l ps) (inr h) ow r st s e =
      let d = node forms.SimpleNode w f' l ps in
      subst (There names) (sym (simple_same env (scalar (marked names d))
      (simple_is d names (marked_small d names st.small) h))) st
  first_stands names env role d (inl h) ow r st s e = absurd h
  first_stands names env role d (inr h) ow r st s e = absurd h
