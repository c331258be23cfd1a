-- What the lines of a declarator of vectors leave in the scopes: components of other variables stand for what they
-- stood
-- for, and its own are scalars.
use Rattle.std.proofs.Common.{◌≡◌, ℕ, zero, suc, ◌+◌, ◌≤◌, ◌<◌, nat_eq, List, [], ◌∷◌, ◌++◌, Option, None, Some}
use Rattle.std.proofs.Common.{Bool, true, false, if◌then◌else◌, refl, ap, sym, ◌∙◌, subst, inl, inr, ◌⊎◌, arith}
use Rattle.std.proofs.lemmas.Bool.Decides.{nat_tests}
use Rattle.std.specs.Prelude.{codes, decimal}
use Rattle.std.specs.Str.{bytes_eq}
use Rattle.wg_num.specs.declared.types.IntType.{IntType}
use Rattle.cl_model.specs.Lists.{Each}
use Rattle.cl_tree.specs.declared.tree.Form.TheVariants as forms
use Rattle.cl_tree.specs.Syntax.{Syntax, node, Forest, none, more, joined}
use Rattle.cl_tree.specs.Nodes.{forest1}
use Rattle.cl_meaning.specs.Spelling.{name_in, declared_in, is_const}
use Rattle.cl_meaning.specs.declared.types.Declared.{Declared}
use Rattle.cl_meaning.specs.Environment.{Env}
use Rattle.cl_meaning.specs.Declarations.{form_of, word_of, is_star}
use Rattle.cl_meaning.specs.Visible.{behind, behind_parts, later}
use Rattle.cl_check_sound.specs.Shape.{IsType, IsExpression, IsOptional, AreDeclarators, IsDeclaration, IsStatement}
use Rattle.cl_check_sound.proofs.Grown.{SameOuter, is_deep, deep_outer}
use Rattle.cl_check_sound.proofs.Growth.{simple_leaves}
use Rattle.cl_check_sound.proofs.Parts.{line_behind}
use Rattle.cl_short_vec.specs.declared.made.Made.{Made}
use Rattle.cl_short_vec.specs.declared.made.Made.TheVariants as made
use Rattle.cl_short_vec.specs.declared.roles.Around.TheVariants as around
use Rattle.cl_short_vec.specs.Types.{numbers}
use Rattle.cl_short_vec.specs.Marks.{Mark, mark, Marks, unmarked, marking, tree_at, kind_at, vector_among}
use Rattle.cl_short_vec.specs.Roles.{is_paren}
use Rattle.cl_short_vec.specs.Faults.{is_private_at}
use Rattle.cl_short_vec.specs.Made.{made_of}
use Rattle.cl_short_vec.specs.Nodes.{span_of, component_name, helper}
use Rattle.cl_short_vec.specs.Order.{Named, Step, Offset, Number, Copy, Load, Set, Store, type_in, count_in, loads}
use Rattle.cl_short_vec.specs.Order.{copies, named_by, steps_by, steps_in, all_steps}
use Rattle.cl_short_vec.specs.Order.{list_steps, inside_steps, sets}
use Rattle.cl_short_vec.specs.Parts.{Assigned, assigned_part}
use Rattle.cl_short_vec.specs.Scalar.{scalar}
use Rattle.cl_short_vec.specs.Unit.{line_of, lines_of, component_declarators}
use Rattle.cl_short_vec_correct.proofs.Nodes.{initial_is}
use Rattle.cl_short_vec_correct.proofs.Parts.{assigned_is}
use Rattle.cl_short_vec_correct.proofs.Steps.{StepIs, StepsAre, lines_are}
use Rattle.cl_short_vec_correct.specs.Sources.{is_sourced}
use Rattle.cl_short_vec.proofs.OwnNames.{HasNoBlank, IsName, helper_name, component_is_name, alone_name, set_name}
use Rattle.cl_short_vec.proofs.OwnNames.{set_dimensions, alone_dimensions}
use Rattle.cl_short_vec_correct.proofs.LineWords.{has_point}
use Rattle.cl_short_vec_correct.proofs.Says.{Tells, pointed_apart, components_apart}
use Rattle.cl_short_vec_correct.proofs.Behind.{EachApart, Leaves, leaves_same, leaves_then, declaration_other}
use Rattle.cl_short_vec_correct.proofs.Behind.{declaration_outer, IsPlain, ArePlain, IsAmong, declaration_tells}

-- ---- forests behind each other

pub front_same : (env : Env) (front : Bool) (ps : Forest) →
    behind_parts env forms.BlockNode front ps ≡ behind_parts env forms.BlockNode false ps
unfolding behind_parts later
front_same env front none = refl
front_same env front (more p ps) = refl

pub joined_behind : (env : Env) (front : Bool) (a b : Forest) → behind_parts env forms.BlockNode front (joined a b) ≡
    behind_parts (behind_parts env forms.BlockNode front a) forms.BlockNode false b
unfolding behind_parts later
joined_behind env front none b = front_same env front b
joined_behind env front (more p ps) b = joined_behind (behind env p) false ps b

pub joined_lists : (type : Option Mark) (a : Assigned) (ss ts : List Step) →
    lines_of type a (ss ++ ts) ≡ joined (lines_of type a ss) (lines_of type a ts)
joined_lists type a [] ts = refl
joined_lists type a (s ∷ ss) ts = ap (λ z. more (line_of type a s) z) (joined_lists type a ss ts)

-- ---- the steps of an expression set and store nothing

abbrev pub TakesOnly : Step → Type 0
TakesOnly (Set x c j) = ⊥
TakesOnly (Store m c j) = ⊥
TakesOnly s = Unit {0}

pub each_joined : (a b : List Step) → Each TakesOnly a → Each TakesOnly b → Each TakesOnly (a ++ b)
each_joined [] b h k = k
each_joined (s ∷ a) b h k = (h.0, each_joined a b h.1 k)

pub loads_take : (m : Mark) (cs : List ℕ) → Each TakesOnly (loads m cs)
loads_take m [] = tt
loads_take m (c ∷ cs) = (tt, loads_take m cs)

pub copies_take : (of : IntType) (x : Named) (cs : List ℕ) → Each TakesOnly (copies of x cs)
copies_take of x [] = tt
copies_take of x (c ∷ cs) = (tt, copies_take of x cs)

by_takes : (how : Made) (of : IntType) (m : Mark) (items all lists : List Step) → Each TakesOnly items →
    Each TakesOnly all → Each TakesOnly lists → Each TakesOnly (steps_by how of m items all lists)
by_takes made.Number of m items all lists i a l = (tt, tt)
by_takes made.Items of m items all lists i a l = i
by_takes made.Variable of m items all lists i a l =
    copies_take (type_in (kind_at m)) (named_by (tree_at m)) (numbers 0 1 (count_in (kind_at m)))
by_takes made.Element of m items all lists i a l = (tt, loads_take m (numbers 0 1 (count_in (kind_at m))))
by_takes made.Listed of m items all lists i a l = l
by_takes how of m items all lists i a l = a

mutual
  unfolding steps_in all_steps list_steps inside_steps

  pub steps_take : (m : Mark) (listed : Bool) (of : IntType) → Each TakesOnly (steps_in listed of m)
  steps_take (mark t k parts) listed of = by_takes (made_of listed t k) of (mark t k parts) (all_steps true of parts)
      (all_steps false (type_in (vector_among parts)) parts) (list_steps (type_in k) parts)
      (all_take parts true of) (all_take parts false (type_in (vector_among parts))) (lists_take parts (type_in k))

  all_take : (ms : Marks) (listed : Bool) (of : IntType) → Each TakesOnly (all_steps listed of ms)
  all_take unmarked listed of = tt
  all_take (marking m ms) listed of = each_joined (steps_in listed of m) (all_steps false of ms)
      (steps_take m listed of) (all_take ms false of)

  lists_take : (ms : Marks) (of : IntType) → Each TakesOnly (list_steps of ms)
  lists_take unmarked of = tt
  lists_take (marking m ms) of =
      each_joined (inside_steps of m) (list_steps of ms) (inside_takes m of) (lists_take ms of)

  inside_takes : (m : Mark) (of : IntType) → Each TakesOnly (inside_steps of m)
  inside_takes (mark t k parts) of = by (is_paren (form_of t)) (all_take parts true of)
    where
      by : (b : Bool) → Each TakesOnly (all_steps true of parts) →
          Each TakesOnly (if b then all_steps true of parts else [])
      by true h = h
      by false h = tt

-- ---- the line of a step

-- the step does not declare this component of a variable
abbrev pub StepApart : List ℕ → ℕ → Step → Type 0
StepApart n d (Set x c j) = HasNoBlank x.name × (bytes_eq (component_name x.name c) (component_name n d) ≡ false)
StepApart n d s = Unit {0}

pub takes_apart : (n : List ℕ) (d : ℕ) (ss : List Step) → Each TakesOnly ss → Each (StepApart n d) ss
takes_apart n d [] h = tt
takes_apart n d (s ∷ ss) h = (by s h.0, takes_apart n d ss h.1)
  where
    by : (s : Step) → TakesOnly s → StepApart n d s
    by (Offset m) h = tt
    by (Number of m) h = tt
    by (Copy of x c) h = tt
    by (Load m c) h = tt
    by (Set x c j) h = absurd h
    by (Store m c j) h = tt

declared_or : (w : List ℕ) (f l : ℕ) (t : Syntax) (ds : Forest) →
    IsDeclaration (node forms.DeclareNode w f l (more t ds)) ⊎ IsStatement (node forms.DeclareNode w f l (more t ds)) →
    IsType t × AreDeclarators ds
declared_or w f l t ds (inl h) = h
declared_or w f l t ds (inr h) = absurd h

simple_or : (w : List ℕ) (f l : ℕ) (ps : Forest) →
    IsDeclaration (node forms.SimpleNode w f l ps) ⊎ IsStatement (node forms.SimpleNode w f l ps) → IsOptional ps
simple_or w f l ps (inl h) = absurd h
simple_or w f l ps (inr h) = h

simple_other : (env : Env) (w : List ℕ) (f l : ℕ) (ps : Forest) (q : List ℕ) →
    IsDeclaration (node forms.SimpleNode w f l ps) ⊎ IsStatement (node forms.SimpleNode w f l ps) →
    Leaves q env.scopes (behind env (node forms.SimpleNode w f l ps)).scopes
simple_other env w f l ps q h = subst (λ (z : Env). Leaves q env.scopes z.scopes)
    (sym (simple_leaves env w f l ps (simple_or w f l ps h))) (leaves_same q env.scopes)

-- a line that declares one name
one_other : (env : Env) (w : List ℕ) (f l : ℕ) (t : Syntax) (name : List ℕ) (f' l' : ℕ) (parts : Forest)
    (q : List ℕ) → HasNoBlank name → bytes_eq name q ≡ false → is_deep env.scopes ≡ true →
    IsDeclaration (node forms.DeclareNode w f l
    (more t (forest1 (node forms.DeclaratorNode (name ++ codes " =") f' l' parts)))) ⊎
    IsStatement (node forms.DeclareNode w f l
    (more t (forest1 (node forms.DeclaratorNode (name ++ codes " =") f' l' parts)))) →
    Leaves q env.scopes (behind env (node forms.DeclareNode w f l
    (more t (forest1 (node forms.DeclaratorNode (name ++ codes " =") f' l' parts))))).scopes
one_other env w f l t name f' l' parts q b a d h =
    let ds = forest1 (node forms.DeclaratorNode (name ++ codes " =") f' l' parts) in
    let x = declared_or w f l t ds h in
    declaration_other env w f l t ds q x.0 x.1 d (ap (λ z. bytes_eq z q) (set_name name b) ∙ a, tt)

pub line_other : (type : Mark) (a : Assigned) (s : Step) (env : Env) (n : List ℕ) (d : ℕ) → IsType (scalar type) →
    StepIs s → is_sourced n ≡ true → is_deep env.scopes ≡ true → StepApart n d s →
    Leaves (component_name n d) env.scopes (behind env (line_of (Some type) a s)).scopes
line_other type a (Offset m) env n d t k so dp ap' =
    let s = span_of (tree_at m) in
    one_other env _ _ _ _ (helper s) _ _ _ (component_name n d) (helper_name s).0
    (pointed_apart (decimal s.first) n d so) dp (lines_are (Some type) a (Offset m ∷ []) t (k, tt)).0
line_other type a (Number of m) env n d t k so dp ap' =
    let s = span_of (tree_at m) in
    one_other env _ _ _ _ (helper s) _ _ _ (component_name n d) (helper_name s).0
    (pointed_apart (decimal s.first) n d so) dp (lines_are (Some type) a (Number of m ∷ []) t (k, tt)).0
line_other type a (Copy of x c) env n d t k so dp ap' =
    let s = x.span in
    one_other env _ _ _ _ (component_name (helper s) c) _ _ _ (component_name n d)
    (component_is_name (helper s) c (helper_name s).0).0
    (pointed_apart (decimal s.first ++ (codes "." ++ decimal c)) n d so) dp
    (lines_are (Some type) a (Copy of x c ∷ []) t (k, tt)).0
line_other type a (Load m c) env n d t k so dp ap' =
    let s = span_of (tree_at m) in
    one_other env _ _ _ _ (component_name (helper s) c) _ _ _ (component_name n d)
    (component_is_name (helper s) c (helper_name s).0).0
    (pointed_apart (decimal s.first ++ (codes "." ++ decimal c)) n d so) dp
    (lines_are (Some type) a (Load m c ∷ []) t (k, tt)).0
line_other type a (Set x c j) env n d t k so dp ap' =
    one_other env _ _ _ _ (component_name x.name c) _ _ _ (component_name n d) (component_is_name x.name c ap'.0).0
    ap'.1 dp (lines_are (Some type) a (Set x c j ∷ []) t (k, tt)).0
line_other type a (Store m c j) env n d t k so dp ap' =
    simple_other env _ _ _ _ (component_name n d) (lines_are (Some type) a (Store m c j ∷ []) t (k, tt)).0

-- ---- all lines

pub no_lines : (env : Env) → behind_parts env forms.BlockNode false none ≡ env
unfolding behind_parts
no_lines env = refl

pub lines_other : (type : Mark) (a : Assigned) (ss : List Step) (env : Env) (n : List ℕ) (d : ℕ) →
    IsType (scalar type) → StepsAre ss → is_sourced n ≡ true → is_deep env.scopes ≡ true → Each (StepApart n d) ss →
    Leaves (component_name n d) env.scopes
    (behind_parts env forms.BlockNode false (lines_of (Some type) a ss)).scopes
lines_other type a [] env n d t k so dp ap' =
    subst (λ (z : Env). Leaves (component_name n d) env.scopes z.scopes) (sym (no_lines env))
    (leaves_same (component_name n d) env.scopes)
lines_other type a (s ∷ ss) env n d t k so dp ap' =
    let q = component_name n d in
    let line = line_of (Some type) a s in
    let mid = behind env line in
    let ls = lines_of (Some type) a ss in
    let x = line_other type a s env n d t k.0 so dp ap'.0 in
    subst (λ (z : Env). Leaves q env.scopes z.scopes) (sym (line_behind env false line ls))
    (leaves_then q env.scopes mid.scopes (behind_parts mid forms.BlockNode false ls).scopes x
    (lines_other type a ss mid n d t k.1 so (deep_outer env.scopes mid.scopes dp x.0) ap'.1))

-- ---- the lines that declare components

-- the component is one of those with these numbers
abbrev pub ComponentAmong : List ℕ → List ℕ → List ℕ → Type 0
ComponentAmong q name [] = ⊥
ComponentAmong q name (c ∷ cs) = (component_name name c ≡ q) ⊎ ComponentAmong q name cs

numbers_among : (name : List ℕ) (first n c : ℕ) → first ≤ c → c < first + n →
    ComponentAmong (component_name name c) name (numbers first 1 n)
numbers_among name first zero c h k = absurd (omega arith)
numbers_among name first (suc n) c h k = by (nat_eq first c) refl
    (λ more'. numbers_among name (first + 1) n c more' (omega arith))
  where
    by : (b : Bool) → nat_eq first c ≡ b → (first + 1 ≤ c →
        ComponentAmong (component_name name c) name (numbers (first + 1) 1 n)) →
        ComponentAmong (component_name name c) name (numbers first 1 (suc n))
    by true e g = let same : first ≡ c = grind (arith, nat_tests) in inl (ap (component_name name) same)
    by false e g = let less : first + 1 ≤ c = grind (arith, nat_tests) in inr (g less)

pub all_among : (name : List ℕ) (n c : ℕ) → c < n → ComponentAmong (component_name name c) name (numbers 0 1 n)
all_among name n c h = numbers_among name 0 n c (omega arith) (omega arith)

no_star : (t : Syntax) → IsExpression t → is_star t ≡ false
no_star (node forms.StarNode w f l parts) h = absurd h
no_star t h = refl

set_plain : (name : List ℕ) (f l : ℕ) (value : Syntax) → IsName name → IsExpression value →
    IsPlain (node forms.DeclaratorNode (name ++ codes " =") f l (forest1 value))
set_plain name f l value n h = (
  initial_is (name ++ codes " =") f l value (inl h),
  (
    ap (λ (b : Bool). if b then Some (is_const (word_of value)) else None) (no_star value h),
    set_dimensions name n,
  ),
)

pub set_tells : (type : Mark) (dd : Declared) (a : Assigned) (x : Named) (c j : ℕ) (env : Env) (q : List ℕ) →
    IsType (scalar type) → declared_in (scalar type) ≡ Some dd → is_private_at around.Block dd.space ≡ true →
    HasNoBlank x.name → is_deep env.scopes ≡ true → (component_name x.name c ≡ q) ⊎ Tells env.scopes dd.of q →
    Tells (behind env (line_of (Some type) a (Set x c j))).scopes dd.of q ×
    SameOuter env.scopes (behind env (line_of (Some type) a (Set x c j))).scopes
set_tells type dd a x c j env q t e p b d k =
    let name = component_name x.name c in
    let n = component_is_name x.name c b in
    let s = x.span in
    let plain = set_plain name s.first s.last (assigned_part a j) n (assigned_is a j) in
    let ds = forest1 (node forms.DeclaratorNode (name ++ codes " =") s.first s.last (forest1 (assigned_part a j))) in (
      declaration_tells env dd (codes ";") s.first s.last (scalar type) ds q t (plain, tt) e d p (by (set_name name n.0)
          k),
      declaration_outer env (codes ";") s.first s.last (scalar type) ds t (plain.0, tt),
    )
  where
    by : name_in (component_name x.name c ++ codes " =") ≡ component_name x.name c →
        (component_name x.name c ≡ q) ⊎ Tells env.scopes dd.of q →
        ((name_in (component_name x.name c ++ codes " =") ≡ q) ⊎ ⊥) ⊎ Tells env.scopes dd.of q
    by i (inl k) = inl (inl (i ∙ k))
    by i (inr k) = inr k

set_outer : (type : Mark) (a : Assigned) (x : Named) (c j : ℕ) (env : Env) → IsType (scalar type) →
    HasNoBlank x.name → SameOuter env.scopes (behind env (line_of (Some type) a (Set x c j))).scopes
set_outer type a x c j env t b =
    let name = component_name x.name c in
    let s = x.span in
    declaration_outer env (codes ";") s.first s.last (scalar type)
    (forest1 (node forms.DeclaratorNode (name ++ codes " =") s.first s.last (forest1 (assigned_part a j)))) t
    ((set_plain name s.first s.last (assigned_part a j) (component_is_name x.name c b) (assigned_is a j)).0, tt)

pub sets_tell : (type : Mark) (dd : Declared) (a : Assigned) (x : Named) (cs : List ℕ) (j : ℕ) (env : Env)
    (q : List ℕ) → IsType (scalar type) → declared_in (scalar type) ≡ Some dd →
    is_private_at around.Block dd.space ≡ true → HasNoBlank x.name → is_deep env.scopes ≡ true →
    ComponentAmong q x.name cs ⊎ Tells env.scopes dd.of q →
    Tells (behind_parts env forms.BlockNode false (lines_of (Some type) a (sets x cs j))).scopes dd.of q
sets_tell type dd a x [] j env q t e p b d (inl k) = absurd k
sets_tell type dd a x [] j env q t e p b d (inr k) =
    subst (λ (z : Env). Tells z.scopes dd.of q) (sym (no_lines env)) k
sets_tell type dd a x (c ∷ cs) j env q t e p b d k =
    let line = line_of (Some type) a (Set x c j) in
    let mid = behind env line in
    let ls = lines_of (Some type) a (sets x cs (suc j)) in
    let dm = deep_outer env.scopes mid.scopes d (set_outer type a x c j env t b) in
    subst (λ (z : Env). Tells z.scopes dd.of q) (sym (line_behind env false line ls))
    (by (Tells (behind_parts mid forms.BlockNode false ls).scopes dd.of q)
    (λ m. sets_tell type dd a x cs (suc j) mid q t e p b dm m) k)
  where
    by : (R : Type 0) → (ComponentAmong q x.name cs ⊎
        Tells (behind env (line_of (Some type) a (Set x c j))).scopes dd.of q → R) →
        ((component_name x.name c ≡ q) ⊎ ComponentAmong q x.name cs) ⊎ Tells env.scopes dd.of q → R
    by R g (inl (inl same)) = g (inr (set_tells type dd a x c j env q t e p b d (inl same)).0)
    by R g (inl (inr k)) = g (inl k)
    by R g (inr k) = g (inr (set_tells type dd a x c j env q t e p b d (inr k)).0)

-- ---- components without an initialiser

pub components_plain : (x : Named) (cs : List ℕ) → HasNoBlank x.name → ArePlain (component_declarators x cs)
components_plain x [] b = tt
components_plain x (c ∷ cs) b = (
  (tt, (refl, alone_dimensions (component_name x.name c) (component_is_name x.name c b))),
  components_plain x cs b,
)

pub components_among : (x : Named) (cs : List ℕ) (q : List ℕ) → HasNoBlank x.name → ComponentAmong q x.name cs →
    IsAmong q (component_declarators x cs)
components_among x [] q b h = h
components_among x (c ∷ cs) q b (inl h) =
    inl (alone_name (component_name x.name c) (component_is_name x.name c b).0 ∙ h)
components_among x (c ∷ cs) q b (inr h) = inr (components_among x cs q b h)

pub components_each_apart : (x : Named) (cs : List ℕ) (n : List ℕ) (d : ℕ) → HasNoBlank x.name →
    has_point x.name ≡ false → has_point n ≡ false → bytes_eq x.name n ≡ false →
    EachApart (component_name n d) (component_declarators x cs)
components_each_apart x [] n d b p h a = tt
components_each_apart x (c ∷ cs) n d b p h a = (
  ap (λ z. bytes_eq z (component_name n d))
      (alone_name (component_name x.name c) (component_is_name x.name c b).0) ∙
      components_apart x.name n c d p h a,
  components_each_apart x cs n d b p h a,
)

pub sets_apart : (x : Named) (cs : List ℕ) (j : ℕ) (n : List ℕ) (d : ℕ) → HasNoBlank x.name →
    has_point x.name ≡ false → has_point n ≡ false → bytes_eq x.name n ≡ false → Each (StepApart n d) (sets x cs j)
sets_apart x [] j n d b p h a = tt
sets_apart x (c ∷ cs) j n d b p h a =
    ((b, components_apart x.name n c d p h a), sets_apart x cs (suc j) n d b p h a)

pub each_apart_joined : (n : List ℕ) (d : ℕ) (a b : List Step) → Each (StepApart n d) a → Each (StepApart n d) b →
    Each (StepApart n d) (a ++ b)
each_apart_joined n d [] b h k = k
each_apart_joined n d (s ∷ a) b h k = (h.0, each_apart_joined n d a b h.1 k)
