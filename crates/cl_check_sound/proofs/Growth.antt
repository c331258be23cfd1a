-- What declarations and statements leave: a walk over the trees of a function's block.
use Rattle.std.proofs.Common.{◌≡◌, ℕ, List, Option, None, Some, Bool, true, false, not, ◌&&◌, refl, ap, sym, ◌∙◌}
use Rattle.std.proofs.Common.{subst, inl, inr, ◌⊎◌, if◌then◌else◌}
use Rattle.cl_tree.specs.declared.tree.Form.TheVariants as forms
use Rattle.cl_tree.specs.Syntax.{Syntax, node, Forest, none, more, last_of}
use Rattle.cl_meaning.specs.declared.types.Declared.{Declared}
use Rattle.cl_meaning.specs.Spelling.{declared_in}
use Rattle.cl_meaning.specs.declared.fault.Fault.TheVariants as faults
use Rattle.cl_meaning.specs.declared.kind.Kind.{Kind}
use Rattle.cl_meaning.specs.declared.kind.Role.{Role}
use Rattle.cl_meaning.specs.Environment.{Env, Labels, empty_scope}
use Rattle.cl_meaning.specs.Kinds.{is_some}
use Rattle.cl_meaning.specs.Declarations.{declarator_in, with_declarator, last_kind}
use Rattle.cl_meaning.specs.Visible.{Before, is_front, role_of, inside, later, restored, left, closed, behind}
use Rattle.cl_meaning.specs.Visible.{behind_parts, kind_of, kinds_of, visible_at, opened, apart, in_block, in_loop}
use Rattle.cl_meaning.specs.Visible.{in_switch, behind_value}
use Rattle.cl_meaning.specs.Faults.{Asked, Looked, looked_at, given, is_misplaced}
use Rattle.cl_check_sound.specs.Shape.{IsType, IsExpression, AreExpressions, IsList, AreLengths, IsDeclarator}
use Rattle.cl_check_sound.specs.Shape.{AreDeclarators, IsDeclaration, IsOptional, IsSimple}
use Rattle.cl_check_sound.specs.Sound.{SoundTree, SoundParts}
use Rattle.cl_check_sound.proofs.Neutral.{closed_same, neutral, behind_type}
use Rattle.cl_check_sound.proofs.Shapes.{of_expressions}
use Rattle.cl_check_sound.proofs.Grown.{extends_same, SameOuter, outer_same, outer_whole, is_deep, deep_outer}
use Rattle.cl_check_sound.proofs.Grown.{deep_opened, deep_inside, Grown, Kept, grown_same, kept_same, grown_then}
use Rattle.cl_check_sound.proofs.Grown.{Within, Like, Placed, declarator_grows}

-- an expression leaves what was visible before it
pub expression_leaves : (env : Env) (t : Syntax) → IsExpression t → behind env t ≡ env
expression_leaves env t h = neutral env t (of_expressions t h)

-- ---- the parts of a declarator

pub expressions_leave : (env : Env) (front : Bool) (parts : Forest) → AreExpressions parts →
    behind_parts env forms.ListNode front parts ≡ env
unfolding behind_parts later
expressions_leave env front none h = refl
expressions_leave env front (more p ps) h =
    ap (λ z. behind_parts z forms.ListNode false ps) (expression_leaves env p h.0) ∙ expressions_leave env false ps h.1

pub list_leaves : (env : Env) (t : Syntax) → IsList t → behind env t ≡ env
unfolding behind left restored inside
list_leaves env (node forms.ListNode w f l parts) h =
    ap (λ z. closed env z) (expressions_leave env true parts h) ∙ closed_same env
list_leaves env t h = absurd h

pub length_leaves : (env : Env) (t : Syntax) → IsExpression t ⊎ IsList t → behind env t ≡ env
length_leaves env t (inl h) = expression_leaves env t h
length_leaves env t (inr h) = list_leaves env t h

pub lengths_leave : (env : Env) (front : Bool) (parts : Forest) → AreLengths parts →
    behind_parts env forms.DeclaratorNode front parts ≡ env
unfolding behind_parts later
lengths_leave env front none h = refl
lengths_leave env front (more p none) h = length_leaves env p h
lengths_leave env front (more p (more q qs)) h =
    ap (λ z. behind_parts z forms.DeclaratorNode false (more q qs)) (expression_leaves env p h.0) ∙
    lengths_leave env false (more q qs) h.1

pub star_leaves : (env : Env) (w : List ℕ) (f l : ℕ) → behind env (node forms.StarNode w f l none) ≡ env
unfolding behind left restored inside behind_parts
star_leaves env w f l = closed_same env

pub declarator_parts : (env : Env) (w : List ℕ) (f l : ℕ) (parts : Forest) →
    IsDeclarator (node forms.DeclaratorNode w f l parts) → behind_parts env forms.DeclaratorNode true parts ≡ env
unfolding behind_parts later
declarator_parts env w f l none h = refl
declarator_parts env w f l (more (node forms.StarNode w' f' l' none) ps) h =
    ap (λ z. behind_parts z forms.DeclaratorNode false ps) (star_leaves env w' f' l') ∙ lengths_leave env false ps h
declarator_parts env w f l (more (node form w' f' l' qs) ps) h =
    lengths_leave env true (more (node form w' f' l' qs) ps) h

-- what a declarator leaves, and what is visible at it
pub declarator_leaves : (env : Env) (w : List ℕ) (f l : ℕ) (parts : Forest) →
    IsDeclarator (node forms.DeclaratorNode w f l parts) →
    behind env (node forms.DeclaratorNode w f l parts) ≡ with_declarator env env.declared (declarator_in w f parts)
    (last_kind (kinds_of env forms.DeclaratorNode true parts))
unfolding behind left restored inside
declarator_leaves env w f l parts h =
    ap (λ z. with_declarator (closed env z) (closed env z).declared (declarator_in w f parts)
    (last_kind (kinds_of env forms.DeclaratorNode true parts))) (declarator_parts env w f l parts h)
    ∙ ap (λ z. with_declarator z z.declared (declarator_in w f parts)
    (last_kind (kinds_of env forms.DeclaratorNode true parts))) (closed_same env)

pub declarator_visible : (env : Env) (w : List ℕ) (f l : ℕ) (parts : Forest) →
    IsDeclarator (node forms.DeclaratorNode w f l parts) → visible_at env (node forms.DeclaratorNode w f l parts) ≡ env
unfolding restored inside
declarator_visible env w f l parts h = ap (λ z. closed env z) (declarator_parts env w f l parts h) ∙ closed_same env

-- a declarator that is not at fault is not misplaced
placed_by : (n : Looked) (o : Option Declared) (x : _) →
    given o (λ d. not (is_some x.star) && is_misplaced n x d.space) ≡ false → Placed n x o
placed_by n None x h = tt
placed_by n (Some d) x h = h

pub one_declarator_grows : (asked : Asked) (env : Env) (role : Role) (t : Syntax) → IsDeclarator t →
    SoundTree asked env role t → is_deep env.scopes ≡ true → Grown env (behind env t)
one_declarator_grows asked env role (node forms.DeclaratorNode w f l parts) h s d =
    let n = looked_at env role (node forms.DeclaratorNode w f l parts) in
    let e = declarator_visible env w f l parts h in
    let p = s.1.0 faults.LocalMisplaced in
    let o = subst (λ z. given z (λ d. not (is_some (declarator_in w f parts).star) &&
    is_misplaced n (declarator_in w f parts) d.space) ≡ false) (ap (λ z. z.declared) e) p in
    subst (Grown env) (sym (declarator_leaves env w f l parts h))
    (declarator_grows env n env.declared (declarator_in w f parts)
    (last_kind (kinds_of env forms.DeclaratorNode true parts)) (deep_inside env d) e
    (placed_by n env.declared (declarator_in w f parts) o))
one_declarator_grows asked env role t h s d = absurd h

pub next_declarator : (env : Env) (front : Bool) (t : Syntax) (k : Option Kind) → IsDeclarator t →
    later env forms.DeclareNode front t k ≡ env
unfolding later
next_declarator env front (node forms.DeclaratorNode w f l parts) k h = refl
next_declarator env front t k h = absurd h

pub declarators_grow : (asked : Asked) (env : Env) (b : Before) (parts : Forest) → AreDeclarators parts →
    SoundParts asked env forms.DeclareNode b parts → is_deep env.scopes ≡ true →
    Grown env (behind_parts env forms.DeclareNode (is_front b) parts)
unfolding behind_parts
declarators_grow asked env b none h s d = grown_same env
declarators_grow asked env b (more p ps) h s d =
    let g = one_declarator_grows asked env (role_of forms.DeclareNode b p) p h.0 s.0 d in
    let e = next_declarator (behind env p) (is_front b) p (kind_of env p) h.0 in
    let x = subst (λ z. SoundParts asked z forms.DeclareNode (Some (last_of p)) ps) e s.1 in
    let q = declarators_grow asked (behind env p) (Some (last_of p)) ps h.1 x
    (deep_outer env.scopes (behind env p).scopes d g.scopes) in
    subst (λ z. Grown env (behind_parts z forms.DeclareNode false ps)) (sym e)
    (grown_then env (behind env p) (behind_parts (behind env p) forms.DeclareNode false ps) g q)

-- ---- declarations

closing_lines : (env : Env) (o : Option Declared) (inner : Env) → Grown (record env { declared = o }) inner →
    Grown env (closed env inner)
closing_lines env o inner g = record {
  frame = ap (λ z. closed env z) g.frame;
  scopes = subst (λ z. SameOuter env.scopes z) (sym (outer_whole env.scopes inner.scopes g.scopes)) g.scopes;
  variables = g.variables;
  arrays = g.arrays;
  locals = λ n k. g.locals n (ap (λ z. z.owner.kernel) g.frame ∙ k);
}

-- behind the type of a declaration
pub type_next : (env : Env) (front : Bool) (t : Syntax) (k : Option Kind) → IsType t →
    later (behind env t) forms.DeclareNode front t k ≡ record env { declared = declared_in t }
unfolding later
type_next env front (node forms.TypeNode w f l none) k h =
    ap (λ (z : Env). record z { declared = declared_in (node forms.TypeNode w f l none) })
    (behind_type env (node forms.TypeNode w f l none) h)
type_next env front (node forms.TypeNode w f l (more (node forms.SpaceNode w' f' l' none) none)) k h =
    ap (λ (z : Env). record z {
      declared = declared_in
          (node forms.TypeNode w f l (more (node forms.SpaceNode w' f' l' none) none));
    })
    (behind_type env (node forms.TypeNode w f l (more (node forms.SpaceNode w' f' l' none) none)) h)
type_next env front t k h = absurd h

pub declaration_grows : (asked : Asked) (env : Env) (role : Role) (t : Syntax) → IsDeclaration t →
    SoundTree asked env role t → is_deep env.scopes ≡ true → Grown env (behind env t)
unfolding behind behind_parts restored left inside
declaration_grows asked env role (node forms.DeclareNode w f l (more t ds)) h s d =
    let e = type_next env true t (kind_of env t) h.0 in
    let x = subst (λ z. SoundParts asked z forms.DeclareNode (Some (last_of t)) ds) e s.0.1 in
    let g = declarators_grow asked (record env { declared = declared_in t }) (Some (last_of t)) ds h.1 x d in
    subst (λ z. Grown env (closed env (behind_parts z forms.DeclareNode false ds))) (sym e)
    (closing_lines env (declared_in t) (behind_parts (record env { declared = declared_in t }) forms.DeclareNode
    false ds) g)
declaration_grows asked env role t h s d = absurd h

-- ---- statements

pub labels_kept : (env : Env) (ls : Option Labels) → Kept env (record env { labels = ls })
labels_kept env ls = record {
  grown = record {
    frame = refl;
    scopes = outer_same env.scopes;
    variables = extends_same env.variables;
    arrays = extends_same env.arrays;
    locals = λ h. h;
  };
  same = refl;
}

pub value_kept : (env : Env) (ls : Option Labels) (k : Option Kind) → Kept env (behind_value env ls k)
value_kept env None k = labels_kept env _
value_kept env (Some l) k = kept_same env

pub block_is : (env : Env) → env.in_body ≡ false → in_block env ≡ opened (apart env)
block_is env h = ap (λ b. if b then record env { in_body = false; labels = None } else opened (apart env)) h

pub simple_leaves : (env : Env) (w : List ℕ) (f l : ℕ) (parts : Forest) → IsOptional parts →
    behind env (node forms.SimpleNode w f l parts) ≡ env
unfolding behind behind_parts restored left inside later
simple_leaves env w f l none h = closed_same env
simple_leaves env w f l (more e none) h = ap (λ z. closed env z) (expression_leaves env e h) ∙ closed_same env
simple_leaves env w f l (more e (more e' es)) h = absurd h

pub return_leaves : (env : Env) (w : List ℕ) (f l : ℕ) (parts : Forest) → IsOptional parts →
    behind env (node forms.ReturnNode w f l parts) ≡ env
unfolding behind behind_parts restored left inside later
return_leaves env w f l none h = closed_same env
return_leaves env w f l (more e none) h = ap (λ z. closed env z) (expression_leaves env e h) ∙ closed_same env
return_leaves env w f l (more e (more e' es)) h = absurd h

pub break_leaves : (env : Env) (w : List ℕ) (f l : ℕ) → behind env (node forms.BreakNode w f l none) ≡ env
unfolding behind behind_parts restored left inside
break_leaves env w f l = closed_same env

pub continue_leaves : (env : Env) (w : List ℕ) (f l : ℕ) → behind env (node forms.ContinueNode w f l none) ≡ env
unfolding behind behind_parts restored left inside
continue_leaves env w f l = closed_same env

leaves_kept : (env later : Env) → later ≡ env → Kept env later
leaves_kept env later e = subst (λ z. Kept env z) (sym e) (kept_same env)

pub simple_first : (asked : Asked) (env : Env) (role : Role) (t : Syntax) → IsDeclaration t ⊎ IsSimple t →
    SoundTree asked env role t → is_deep env.scopes ≡ true → Grown env (behind env t)
simple_first asked env role t (inl h) s d = declaration_grows asked env role t h s d
simple_first asked env role (node forms.SimpleNode w f l parts) (inr h) s d =
    (leaves_kept env (behind env (node forms.SimpleNode w f l parts)) (simple_leaves env w f l parts h)).grown
simple_first asked env role t (inr h) s d = absurd h

pub like_apart : (env : Env) → Like env (apart env)
like_apart env = record { frame = λ z. refl; owner = refl; variables = refl; arrays = refl }

pub like_loop : (env : Env) → Like env (in_loop env)
like_loop env = record { frame = λ z. refl; owner = refl; variables = refl; arrays = refl }

pub like_switch : (env : Env) → Like env (in_switch env)
like_switch env = record { frame = λ z. refl; owner = refl; variables = refl; arrays = refl }

pub like_for : (env : Env) → Like env (opened (in_loop env))
like_for env = record { frame = λ z. refl; owner = refl; variables = refl; arrays = refl }

pub like_block : (env : Env) → Like env (opened (apart env))
like_block env = record { frame = λ z. refl; owner = refl; variables = refl; arrays = refl }

pub like_label : (env : Env) (ls : Option Labels) → Like env (record env { labels = ls })
like_label env ls = record { frame = λ z. refl; owner = refl; variables = refl; arrays = refl }

pub within_opened : (env : Env) → Within env → Within (opened (in_loop env))
within_opened env w = record { deep = deep_opened env.scopes empty_scope w.deep; in_block = w.in_block }

pub within_block : (env : Env) → Within env → Within (opened (apart env))
within_block env w = record { deep = deep_opened env.scopes empty_scope w.deep; in_block = w.in_block }

pub within_marked : (env i : Env) → i.scopes ≡ env.scopes → i.in_body ≡ env.in_body → Within env → Within i
within_marked env i e b w = record { deep = ap is_deep e ∙ w.deep; in_block = b ∙ w.in_block }

-- behind an expression, and then a statement
pub kept_from : (i e later : Env) → e ≡ i → Kept e later → Kept i later
kept_from i e later h k = subst (λ z. Kept z later) h k

pub grown_from : (i e later : Env) → e ≡ i → Grown e later → Grown i later
grown_from i e later h k = subst (λ z. Grown z later) h k

within_from : (i e : Env) → e ≡ i → Within i → Within e
within_from i e h w = subst Within (sym h) w
