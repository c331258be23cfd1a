-- Components that names say, behind declarators.
use Rattle.std.proofs.Common.{◌≡◌, ℕ, ◌<◌, nat_eq, List, [], ◌∷◌, ◌++◌, Option, None, Some, Bool, true, false, not}
use Rattle.std.proofs.Common.{◌&&◌, if◌then◌else◌, refl, ap, sym, ◌∙◌, subst, inl}
use Rattle.std.proofs.lemmas.Bool.{false≢true}
use Rattle.std.specs.Prelude.{codes}
use Rattle.std.specs.Str.{bytes_eq}
use Rattle.wg_num.specs.declared.types.IntType.{IntType}
use Rattle.cl_model.specs.declared.program.Space.{Space}
use Rattle.cl_model.specs.declared.program.Space.TheVariants as spaces
use Rattle.cl_tree.specs.declared.tree.Form.TheVariants as forms
use Rattle.cl_tree.specs.Syntax.{Syntax, node, Forest, none, more}
use Rattle.cl_tree.specs.Nodes.{forest1}
use Rattle.cl_meaning.specs.Spelling.{name_in, declared_in, dimensions_in, is_const, is_set}
use Rattle.cl_meaning.specs.declared.types.Base.TheVariants.{Integer}
use Rattle.cl_meaning.specs.Types.{space_among, declared_as}
use Rattle.cl_meaning.specs.Kinds.{is_some}
use Rattle.cl_meaning.specs.Environment.{Env, found_in, meaning_in}
use Rattle.cl_meaning.specs.Declarations.{word_of, parts_of, star_in}
use Rattle.cl_meaning.specs.Visible.{behind, behind_parts}
use Rattle.cl_check_sound.specs.Shape.{IsType, AreDeclarators}
use Rattle.cl_check_sound.proofs.Grown.{is_deep, deep_outer}
use Rattle.cl_short_vec.specs.declared.types.Vector.{Vector}
use Rattle.cl_short_vec.specs.declared.kinds.Reach.TheVariants.{Variable}
use Rattle.cl_short_vec.specs.declared.kinds.Kind.{Kind}
use Rattle.cl_short_vec.specs.declared.kinds.Kind.TheVariants.{Vectors}
use Rattle.cl_short_vec.specs.declared.roles.Around.{Around}
use Rattle.cl_short_vec.specs.declared.roles.Around.TheVariants as around
use Rattle.cl_short_vec.specs.Types.{numbers, vector_in, vector_type}
use Rattle.cl_short_vec.specs.Kinds.{Names, with_name, is_variable, pointer_to, declared_kind, behind_declared}
use Rattle.cl_short_vec.specs.Kinds.{is_vector}
use Rattle.cl_short_vec.specs.Marks.{Mark, Marks, marked, marked_parts}
use Rattle.cl_short_vec.specs.Faults.{is_private_at, is_placed}
use Rattle.cl_short_vec.specs.Nodes.{span_of, at, component_name, constant_word, with_parts}
use Rattle.cl_short_vec.specs.Order.{Named, Step, sets, steps_of, initial_steps}
use Rattle.cl_short_vec.specs.Parts.{Assigned}
use Rattle.cl_short_vec.specs.Scalar.{component_words, scalar}
use Rattle.cl_short_vec.specs.Unit.{declared_name, component_declarators, lengths_at, declarators_by}
use Rattle.cl_short_vec.specs.Unit.{lines_of}
use Rattle.cl_short_vec_correct.proofs.Steps.{StepsAre}
use Rattle.cl_short_vec.proofs.OwnNames.{front_blank}
use Rattle.cl_short_vec_correct.proofs.LineWords.{base_word, const_word, declared_with}
use Rattle.cl_short_vec_correct.proofs.Slots.{bytes_are}
use Rattle.cl_short_vec_correct.proofs.Says.{IsOwn, Tells, Says, OwnNames, plain_apart}
use Rattle.cl_short_vec_correct.proofs.Behind.{EachApart, declaration_other, declaration_tells}
use Rattle.cl_short_vec_correct.proofs.Declares.{joined_behind, joined_lists, steps_take, takes_apart, lines_other}
use Rattle.cl_short_vec_correct.proofs.Declares.{all_among, sets_tell, components_plain}
use Rattle.cl_short_vec_correct.proofs.Declares.{components_among, components_each_apart, sets_apart, each_apart_joined}

-- ---- names

-- the components of each variable of another name stand for what they stood for
abbrev pub OthersKept : List ℕ → Env → Env → Type 0
OthersKept name env later = (n : List ℕ) → IsOwn n → bytes_eq name n ≡ false → (c : ℕ) →
    found_in later.scopes (component_name n c) ≡ found_in env.scopes (component_name n c)

told_kept : (env later : Env) (of : IntType) (q : List ℕ) → found_in later.scopes q ≡ found_in env.scopes q →
    Tells env.scopes of q → Tells later.scopes of q
told_kept env later of q e (k, y, h) = (k, y, ap meaning_in e ∙ h)

-- all of them
pub says_kept : (names : Names) (env later : Env) → Says names env → OwnNames names →
    ((n : List ℕ) → IsOwn n → (c : ℕ) →
    found_in later.scopes (component_name n c) ≡ found_in env.scopes (component_name n c)) → Says names later
says_kept names env later s o g name v e c l =
    told_kept env later v.of (component_name name c) (g name (o name v e) c) (s name v e c l)

pub says_named : (names : Names) (env later : Env) (nm : List ℕ) (k : Kind) → Says names env → OwnNames names →
    OthersKept nm env later → ((v : Vector) → k ≡ Vectors v Variable → (c : ℕ) → c < v.count →
    Tells later.scopes v.of (component_name nm c)) → Says (with_name names nm k) later
says_named names env later nm k s o g h name v e c l = by (bytes_eq nm name) refl e
  where
    by : (b : Bool) → bytes_eq nm name ≡ b → (if b then k else names name) ≡ Vectors v Variable →
        Tells later.scopes v.of (component_name name c)
    by true z e =
        subst (λ x. Tells later.scopes v.of (component_name x c)) (bytes_are nm name z) (h v e c l)
    by false z e =
        told_kept env later v.of (component_name name c) (g name (o name v e) z c) (s name v e c l)

pub owns_named : (names : Names) (nm : List ℕ) (k : Kind) → OwnNames names → IsOwn nm → OwnNames (with_name names nm k)
owns_named names nm k o h name v e = by (bytes_eq nm name) refl e
  where
    by : (b : Bool) → bytes_eq nm name ≡ b → (if b then k else names name) ≡ Vectors v Variable → IsOwn name
    by true z e = subst IsOwn (bytes_are nm name z) h
    by false z e = o name v e

-- what a declarator behind a vector type declares
vector_or : Vector → Kind → Vector
vector_or v (Vectors u r) = u
vector_or v k = v

kind_is : (z : Bool) (v u : Vector) (type : Syntax) →
    (if z then Vectors v Variable else pointer_to v type) ≡ Vectors u Variable → (z ≡ true) × (v ≡ u)
unfolding vector_or
kind_is true v u type e = (refl, ap (vector_or v) e)
kind_is false v u type e = absurd (false≢true (ap is_vector e))

pub says_vector : (names : Names) (env later : Env) (v : Vector) (type d : Syntax) → Says names env → OwnNames names →
    OthersKept (name_in (word_of d)) env later →
    (is_variable (word_of d) (parts_of d) ≡ true → (c : ℕ) → c < v.count →
    Tells later.scopes v.of (component_name (name_in (word_of d)) c)) →
    Says (behind_declared (Some v) names type d) later
says_vector names env later v type d s o g h =
    says_named names env later (name_in (word_of d)) (declared_kind v type d) s o g (λ u e c l.
    let x = kind_is (is_variable (word_of d) (parts_of d)) v u type e in
    subst (λ (z : Vector). Tells later.scopes z.of (component_name (name_in (word_of d)) c)) x.1
    (h x.0 c (subst (λ (z : Vector). c < z.count) (sym x.1) l)))

-- ---- the type of components

words_declared : (constant : Bool) (of : IntType) (f l : ℕ) (ps : Forest) →
    declared_in (node forms.TypeNode (constant_word constant of) f l ps) ≡
    Some (declared_with (space_among ps) constant of)
words_declared constant of f l ps =
    ap (λ b. declared_as b (is_const (constant_word constant of)) (space_among ps)) (base_word constant of) ∙
    ap (λ c. declared_as (Some (Integer of false)) c (space_among ps)) (const_word constant of)

vector_words : (o : Option Vector) (v : Vector) (w : List ℕ) (f l : ℕ) (ps : Forest) → o ≡ Some v →
    declared_in (node forms.TypeNode (component_words o w) f l ps) ≡
    Some (declared_with (space_among ps) (is_const w) v.of)
vector_words o v w f l ps e =
    ap (λ o. declared_in (node forms.TypeNode (component_words o w) f l ps)) e ∙ words_declared (is_const w) v.of f l ps

pub type_tells : (names : Names) (type : Syntax) (v : Vector) → IsType type → vector_type type ≡ Some v →
    declared_in (scalar (marked names type)) ≡
    Some (declared_with (space_among (parts_of type)) (is_const (word_of type)) v.of)
unfolding scalar marked marked_parts
type_tells names (node forms.TypeNode w f l none) v h e = vector_words (vector_in w) v w f l none e
type_tells names (node forms.TypeNode w f l (more (node forms.SpaceNode w' f' l' none) none)) v h e =
    vector_words (vector_in w) v w f l (more (node forms.SpaceNode w' f' l' none) none) e
type_tells names type v h e = absurd h

-- ---- where a vector variable stands

pub both_hold : (a b : Bool) → (a && b) ≡ true → (a ≡ true) × (b ≡ true)
both_hold true b h = (refl, h)
both_hold false b h = absurd (false≢true h)

pub placed_private : (a : Around) (space : Option Space) (w : List ℕ) (ps : Forest) → is_placed a space w ps ≡ true →
    is_variable w ps ≡ true → is_private_at a space ≡ true
placed_private a space w ps h k =
    let x = both_hold (not (is_some (star_in ps))) _ h in
    let y = both_hold (nat_eq (dimensions_in w) 0) (not (is_some (star_in ps))) k in
    subst (λ (b : Bool). (if b then is_private_at a space else nat_eq (dimensions_in w) 1 && not (is_set w)) ≡ true)
    y.0 x.1

pub head_private : (space : Option Space) → is_private_at around.Head space ≡ true →
    is_private_at around.Block space ≡ true
head_private None h = refl
head_private (Some spaces.Private) h = refl
head_private (Some spaces.Global) h = absurd (false≢true h)
head_private (Some spaces.Constant) h = absurd (false≢true h)
head_private (Some spaces.Local) h = absurd (false≢true h)

-- ---- the declarators that stand for one

variable_zero : (w : List ℕ) (ps : Forest) → is_variable w ps ≡ true → nat_eq (dimensions_in w) 0 ≡ true
variable_zero w ps h = (both_hold (nat_eq (dimensions_in w) 0) (not (is_some (star_in ps))) h).0

pub by_apart : (v : Vector) (d : Syntax) (ms : Marks) (n : List ℕ) (c : ℕ) → IsOwn (name_in (word_of d)) → IsOwn n →
    bytes_eq (name_in (word_of d)) n ≡ false → EachApart (component_name n c) (declarators_by v d ms)
by_apart v (node form w f l ps) ms n c h k a = by (nat_eq (dimensions_in w) 0)
  where
    x : Named
    x = declared_name (node form w f l ps)

    by : (b : Bool) → EachApart (component_name n c) (if b then component_declarators x (numbers 0 1 v.count) else
        forest1 (at forms.DeclaratorNode w (span_of (node form w f l ps)) (lengths_at v ms)))
    by true = components_each_apart x (numbers 0 1 v.count) n c (front_blank w) h.1 k.1 a
    by false = (plain_apart (name_in w) n c h.1, tt)

pub by_components : (v : Vector) (d : Syntax) (ms : Marks) → is_variable (word_of d) (parts_of d) ≡ true →
    declarators_by v d ms ≡ component_declarators (declared_name d) (numbers 0 1 v.count)
by_components v d ms h = ap (λ (b : Bool). if b then component_declarators (declared_name d) (numbers 0 1 v.count) else
    forest1 (at forms.DeclaratorNode (word_of d) (span_of d) (lengths_at v ms))) (variable_zero (word_of d) (parts_of d) h)

-- ---- the lines that stand for one: without an initialiser

each_front : (a b : List Step) → StepsAre (a ++ b) → StepsAre a
each_front [] b h = tt
each_front (s ∷ a) b h = (h.0, each_front a b h.1)

module _ (v : Vector) (outer : Names) (type d : Syntax) where
  abbrev t : Mark
  t = marked outer type

  pub line_others : (ms : Marks) (env : Env) → IsOwn (name_in (word_of d)) → IsType (scalar t) →
      AreDeclarators (declarators_by v d ms) → is_deep env.scopes ≡ true →
      OthersKept (name_in (word_of d)) env
      (behind env (node forms.DeclareNode (codes ";") (span_of d).first (span_of d).last
      (more (scalar t) (declarators_by v d ms))))
  line_others ms env h i j dp n o a c =
      (declaration_other env (codes ";") (span_of d).first (span_of d).last (scalar t) (declarators_by v d ms)
      (component_name n c) i j dp (by_apart v d ms n c h o a)).1

  pub line_tells : (ms : Marks) (env : Env) → IsType (scalar t) → IsType type → vector_type type ≡ Some v →
      is_private_at around.Block (space_among (parts_of type)) ≡ true →
      is_variable (word_of d) (parts_of d) ≡ true → is_deep env.scopes ≡ true → (c : ℕ) → c < v.count →
      Tells (behind env (node forms.DeclareNode (codes ";") (span_of d).first (span_of d).last
      (more (scalar t) (declarators_by v d ms)))).scopes v.of (component_name (name_in (word_of d)) c)
  line_tells ms env i j e p va dp c l =
      let x = declared_name d in
      let cs = numbers 0 1 v.count in
      let q = component_name (name_in (word_of d)) c in
      let dd = declared_with (space_among (parts_of type)) (is_const (word_of type)) v.of in
      let b = front_blank (word_of d) in
      subst (λ ds. Tells (behind env (node forms.DeclareNode (codes ";") (span_of d).first (span_of d).last
      (more (scalar t) ds))).scopes v.of q) (sym (by_components v d ms va))
      (declaration_tells env dd (codes ";") (span_of d).first (span_of d).last (scalar t) (component_declarators x cs) q
      i (components_plain x cs b) (type_tells outer type v j e) dp p
      (inl (components_among x cs q b (all_among (name_in (word_of d)) v.count c l))))

  -- with one
  pub initial_others : (env : Env) (a : Assigned) (e : Mark) → IsOwn (name_in (word_of d)) → IsType (scalar t) →
      StepsAre (initial_steps v (declared_name d) e) → is_deep env.scopes ≡ true →
      OthersKept (name_in (word_of d)) env (behind_parts env forms.BlockNode false
      (lines_of (Some t) a (initial_steps v (declared_name d) e)))
  initial_others env a e h i j dp n o z c =
      let x = declared_name d in
      let cs = numbers 0 1 v.count in
      (lines_other t a (initial_steps v x e) env n c i j o.0 dp
      (each_apart_joined n c (steps_of v.of e) (sets x cs 0)
      (takes_apart n c (steps_of v.of e) (steps_take e false v.of))
      (sets_apart x cs 0 n c (front_blank (word_of d)) h.1 o.1 z))).1

  pub initial_tells : (env : Env) (a : Assigned) (e : Mark) → IsType (scalar t) → IsType type →
      vector_type type ≡ Some v → is_private_at around.Block (space_among (parts_of type)) ≡ true →
      StepsAre (initial_steps v (declared_name d) e) → is_deep env.scopes ≡ true → (c : ℕ) → c < v.count →
      Tells (behind_parts env forms.BlockNode false (lines_of (Some t) a (initial_steps v (declared_name d) e))).scopes
      v.of (component_name (name_in (word_of d)) c)
  initial_tells env a e i j z p st dp c l =
      let x = declared_name d in
      let cs = numbers 0 1 v.count in
      let ss = steps_of v.of e in
      let q = component_name (name_in (word_of d)) c in
      let dd = declared_with (space_among (parts_of type)) (is_const (word_of type)) v.of in
      let mid = behind_parts env forms.BlockNode false (lines_of (Some t) a ss) in
      let dm = deep_outer env.scopes mid.scopes dp (lines_other t a ss env (codes "x") 0 i (each_front ss (sets x cs 0)
      st) refl dp (takes_apart (codes "x") 0 ss (steps_take e false v.of))).0 in
      let told = sets_tell t dd a x cs 0 mid q i (type_tells outer type v j z) p (front_blank (word_of d)) dm
      (inl (all_among (name_in (word_of d)) v.count c l)) in
      let at : behind_parts env forms.BlockNode false (lines_of (Some t) a (ss ++ sets x cs 0)) ≡
      behind_parts mid forms.BlockNode false (lines_of (Some t) a (sets x cs 0)) =
      ap (λ y. behind_parts env forms.BlockNode false y) (joined_lists (Some t) a ss (sets x cs 0)) ∙
      joined_behind env false (lines_of (Some t) a ss) (lines_of (Some t) a (sets x cs 0)) in
      subst (λ (y : Env). Tells y.scopes v.of q) (sym at) told
