-- Simple statements go on side by side: an expression stands for itself, and an assignment to a vector becomes a block.
use Rattle.std.proofs.Common.{◌≡◌, ℕ, suc, ◌≤◌, List, [], ◌∷◌, Bool, true, false}
use Rattle.std.proofs.Common.{refl, ap, sym, ◌∙◌, subst, arith, if◌then◌else◌}
use Rattle.std.proofs.lemmas.Bool.{false≢true}
use Rattle.cl_model.specs.Lists.{Each}
use Rattle.cl_tree.specs.declared.tree.Form.{Form}
use Rattle.cl_tree.specs.declared.tree.Form.TheVariants as forms
use Rattle.cl_tree.specs.Syntax.{Syntax, node, Forest, none, more, last_of}
use Rattle.cl_tree.specs.Nodes.{forest1}
use Rattle.cl_meaning.specs.Spelling.{setting_in}
use Rattle.cl_meaning.specs.declared.kind.Role.TheVariants as roles
use Rattle.cl_meaning.specs.Environment.{Env}
use Rattle.cl_meaning.specs.Kinds.{kind_step}
use Rattle.cl_meaning.specs.Visible.{inside, behind, behind_parts, later, restored, left, closed, kind_of, kinds_of}
use Rattle.cl_meaning.specs.Faults.{Asked}
use Rattle.cl_check_sound.specs.Shape.{IsExpressionOf, IsStatementOf}
use Rattle.cl_check_sound.proofs.Neutral.{neutral}
use Rattle.cl_short_vec.specs.declared.kinds.Kind as vectors
use Rattle.cl_short_vec.specs.declared.kinds.Kind.TheVariants.{Vectors}
use Rattle.cl_short_vec.specs.declared.roles.Role.TheVariants.{Free, Whole}
use Rattle.cl_short_vec.specs.Kinds.{Names, within, is_other, is_vector, pointer_alone}
use Rattle.cl_short_vec.specs.Kinds as kinds
use Rattle.cl_short_vec.specs.Marks.{marked, marked_parts, kind_at, kind_by}
use Rattle.cl_short_vec.specs.Roles.{role_of}
use Rattle.cl_short_vec.specs.Faults.{refusals}
use Rattle.cl_short_vec.specs.Order.{Step, Number, operator_in, setting_steps}
use Rattle.cl_short_vec.specs.Nodes.{span_of}
use Rattle.cl_short_vec.specs.Scalar.{scalar}
use Rattle.cl_short_vec.specs.Unit.{scalarised, set_block}
use Rattle.cl_short_vec_faults.specs.PlainForm.{plain_of, plains_of}
use Rattle.cl_short_vec_faults.specs.Plainly.{Plainly}
use Rattle.cl_short_vec_faults.specs.Law.{is_of_vectors, assigns}
use Rattle.cl_short_vec_faults.specs.Beside.{IsName, ScopesBeside, Beside}
use Rattle.cl_short_vec_faults.specs.Leaves.{LeavesFit, NumbersAmong}
use Rattle.cl_short_vec_faults.specs.Lines.{IsNumberLeaf, InOrder, PartsInOrder, InBlock}
use Rattle.cl_short_vec_faults.proofs.Ordered.{Ordered, OrderedIn, ordered_le, ordered_in_le}
use Rattle.cl_short_vec_faults.proofs.OuterKept.{take_all}
use Rattle.cl_short_vec_faults.proofs.Refused.{part_none, kind_placed}
use Rattle.cl_short_vec_faults.proofs.PlainForms.{plain_made}
use Rattle.cl_short_vec_faults.proofs.Expressions.{claim}
use Rattle.cl_short_vec_faults.proofs.BesideMoves.{beside_marked, scopes_later}
use Rattle.cl_short_vec_faults.proofs.LineSettings.{settings_follow}
use Rattle.cl_short_vec_faults.proofs.StatementFaults.{sound_but, simple_quiet}
use Rattle.cl_short_vec_faults.proofs.StatementParts.{Going, Placed}
use Rattle.cl_short_vec_faults.proofs.StatementSingles.{beside_self}

-- ---- no expression

pub simple_nothing : (asked : Asked) (names : Names) (n : ℕ) (p s : Env) (w : List ℕ) (f l : ℕ) →
    Placed asked names n p s (node forms.SimpleNode w f l none) →
    Going asked names (suc l) p s (node forms.SimpleNode w f l none)
    (scalarised (marked names (node forms.SimpleNode w f l none)))
unfolding scalarised marked marked_parts plain_of plains_of scalar behind behind_parts restored left inside kind_of
    kind_step
simple_nothing asked names n p s w f l h =
    let a = h.from in
    let b = ordered_le (node forms.SimpleNode w f l none) h.ordered in
    record {
      sound = (tt, ((λ k e. simple_quiet asked s w f l none k), tt));
      beside = beside_self asked names n (suc l) p s (omega arith) h.beside;
      plain = take_all p.scopes;
      form = take_all s.scopes;
      body = refl;
      kind = refl;
      flags = refl;
    }

-- ---- an expression that sets no vector

-- nothing is refused in the expression of a statement
simple_stays : (names : Names) (w : List ℕ) (f l : ℕ) (e : Syntax) →
    refusals Free (marked names (node forms.SimpleNode w f l (more e none))) ≡ [] → refusals Whole (marked names e) ≡ []
unfolding marked marked_parts kind_by role_of
simple_stays names w f l e r = part_none Free _ _ _ r

-- the whole expression of a statement has to do with vectors only where it sets one
whole_apart : (names : Names) (form : Form) (w : List ℕ) (f l : ℕ) (ps : Forest) →
    IsExpressionOf true (node form w f l ps) → refusals Whole (marked names (node form w f l ps)) ≡ [] →
    assigns Whole form (marked_parts form ps (within form w names) true ps) ≡ false →
    is_of_vectors Whole (marked names (node form w f l ps)) ≡ false
unfolding marked
whole_apart names form w f l ps e r a = rw (kind_placed Whole (node form w f l ps) names e r) a

-- behind a statement of one expression
simple_behind : (env : Env) (w : List ℕ) (f l : ℕ) (e : Syntax) →
    behind env (node forms.SimpleNode w f l (forest1 e)) ≡ closed env (behind env e)
unfolding behind behind_parts restored left inside later
simple_behind env w f l e = refl

simple_value : (asked : Asked) (names : Names) (n : ℕ) (p s : Env) (w : List ℕ) (f l : ℕ) (e : Syntax) →
    IsExpressionOf true e → is_of_vectors Whole (marked names e) ≡ false →
    Placed asked names n p s (node forms.SimpleNode w f l (more e none)) →
    Going asked names (suc l) p s (node forms.SimpleNode w f l (more e none))
    (node forms.SimpleNode w f l (forest1 (scalar (marked names e))))
unfolding plain_of plains_of inside kind_of kind_step kinds_of
simple_value asked names n p s w f l e i v h =
    let t = node forms.SimpleNode w f l (more e none) in
    let P = plain_of e in
    let q = scalar (marked names e) in
    let x = claim asked p s names Whole roles.Whole e i h.no_point.1.0 h.beside.plainly
    (h.beside.gives, h.beside.alone) (simple_stays names w f l e h.stays) v h.sound.0.0 in
    let c = h.from in
    let d = ordered_le t h.ordered in
    let bp = simple_behind p w f l P ∙ ap (closed p) (neutral p P x.made) in
    let bs = simple_behind s w f l q ∙ ap (closed s) (neutral s q x.good.made) in
    record {
      sound = (
        (sound_but asked s roles.Whole q x.good.sound, tt),
        ((λ k o. simple_quiet asked s w f l (forest1 q) k), tt),
      );
      beside = subst (λ z. Beside asked names (suc l) z (behind s (node forms.SimpleNode w f l (forest1 q)))) (sym bp)
          (subst (Beside asked names (suc l) (closed p p)) (sym bs)
          (beside_self asked names n (suc l) p s (omega arith) h.beside));
      plain = ap (λ z. z.scopes) bp ∙ take_all p.scopes;
      form = ap (λ z. z.scopes) bs ∙ take_all s.scopes;
      body = ap (λ z. z.in_body) bp;
      kind = refl;
      flags = ap (λ z. z.flags) bp;
    }

-- ---- tokens in order

mutual
  pub in_order : (t : Syntax) → Ordered t → InOrder t
  in_order (node form w f l none) h = (h, tt)
  in_order (node form w f l (more p ps)) h =
      (ordered_le (node form w f l (more p ps)) h, parts_in_order f l (more p ps) h)

  parts_in_order : (f l : ℕ) (ps : Forest) → OrderedIn f ps (suc l) → PartsInOrder f l ps
  parts_in_order f l none h = tt
  parts_in_order f l (more p ps) h = let e = ordered_in_le ps (suc (last_of p)) (suc l) h.2 in
      (h.0, omega arith, in_order p h.1, parts_in_order (suc (last_of p)) l ps h.2)

-- ---- leaves

numbers_leaves : (plain : Env) (steps : List Step) → NumbersAmong plain steps → Each (IsNumberLeaf plain) steps
numbers_leaves plain [] h = tt
numbers_leaves plain (Number of m ∷ steps) h = (h.0, numbers_leaves plain steps h.1)
numbers_leaves plain (_ ∷ steps) h = (tt, numbers_leaves plain steps h)

-- ---- an assignment to a vector

-- what stands for a vector has a name
no_vector : (k : vectors.Kind) → (is_other k ≡ false → IsName []) → is_vector k ≡ false
no_vector (Vectors v r) h = let x = (h refl).some in absurd (false≢true x)
no_vector _ h = refl

-- what is visible at its lines
placed_block : (asked : Asked) (names : Names) (n : ℕ) (p s : Env) (t : Syntax) → Placed asked names n p s t →
    InBlock asked names p s
placed_block asked names n p s t h = record {
  alike = h.beside.plainly;
  give = h.beside.gives;
  alone = h.beside.alone;
  nameless = no_vector (names []) (h.beside.named []);
  unflagged = h.beside.unflagged;
  inside = h.in_body;
  inner = h.deep;
}

-- what stands for a statement leaves the scopes and what is visible in them
beside_followed : (asked : Asked) (names : Names) (n m : ℕ) (p s s' : Env) → n ≤ m → Beside asked names n p s →
    Plainly names p s' → s'.scopes ≡ s.scopes → Beside asked names m (closed p p) s'
beside_followed asked names n m p s s' l h y e =
    beside_marked asked names m p s' (closed p p) s' (take_all p.scopes) refl refl refl y.owner y.declared y.flags
    h.unflagged y.in_body y.in_loop y.in_switch y.labels y.arrays y.tables (record {
      plainly = y;
      scopes = subst (ScopesBeside m p.scopes) (sym e) (scopes_later n m p.scopes s.scopes l h.scopes);
      open' = h.open';
      unflagged = h.unflagged;
      gives = h.gives;
      alone = h.alone;
      named = h.named;
    })

-- the block that stands for it
set_made : (names : Names) (w : List ℕ) (f l : ℕ) (v : List ℕ) (g m : ℕ) (a b : Syntax) →
    is_vector (kind_at (marked names a)) ≡ true →
    let e = node forms.AssignNode v g m (more a (more b none)) in
    let t = node forms.SimpleNode w f l (more e none) in
    scalarised (marked names t) ≡ set_block (span_of t) (operator_in (setting_in v)) (marked names a)
    (marked (kinds.behind names a) b)
unfolding scalarised marked marked_parts
set_made names w f l v g m a b h =
    let e = node forms.AssignNode v g m (more a (more b none)) in
    let t = node forms.SimpleNode w f l (more e none) in
    ap (λ z. if z then set_block (span_of t) (operator_in (setting_in v)) (marked names a)
    (marked (kinds.behind names a) b) else scalar (marked names t)) h

-- where its leaves should be numbers, they are
set_leaves : (p : Env) (names : Names) (w : List ℕ) (f l : ℕ) (v : List ℕ) (g m : ℕ) (a b : Syntax) →
    is_vector (kind_at (marked names a)) ≡ true →
    LeavesFit p (marked names (node forms.SimpleNode w f l (more (node forms.AssignNode v g m (more a (more b none)))
    none))) → NumbersAmong p (setting_steps (operator_in (setting_in v)) (marked names a)
    (marked (kinds.behind names a) b))
unfolding LeavesFit marked marked_parts inside
set_leaves p names w f l v g m a b e h = h.0 e

-- the block that stands for an assignment to a vector goes on side by side with its plain form
simple_set : (asked : Asked) (names : Names) (n : ℕ) (p s : Env) (w : List ℕ) (f l : ℕ) (v : List ℕ) (g m : ℕ)
    (a b : Syntax) → let e = node forms.AssignNode v g m (more a (more b none)) in
    let t = node forms.SimpleNode w f l (more e none) in IsExpressionOf true e →
    is_vector (kind_at (marked names a)) ≡ true → Placed asked names n p s t →
    Going asked names (suc l) p s t (scalarised (marked names t))
unfolding plain_of plains_of inside kind_of kind_step
simple_set asked names n p s w f l v g m a b i u h =
    let e = node forms.AssignNode v g m (more a (more b none)) in
    let t = node forms.SimpleNode w f l (more e none) in
    let P = plain_of e in
    let o = operator_in (setting_in v) in
    let q = set_block (span_of t) o (marked names a) (marked (kinds.behind names a) b) in
    let c = h.from in
    let d = ordered_le t h.ordered in
    let few = h.few in
    let end = h.ordered.2 in
    let y = settings_follow asked names p s roles.Other (span_of t) v g m a b i h.no_point.1.0
    (placed_block asked names n p s t h) (simple_stays names w f l e h.stays) u h.sound.0.0
    (in_order e h.ordered.1) (omega (arith, few, end))
    (numbers_leaves p (setting_steps o (marked names a) (marked (kinds.behind names a) b))
    (set_leaves p names w f l v g m a b u h.leaves)) in
    let bp = simple_behind p w f l P ∙ ap (closed p) (neutral p P (plain_made e i)) in
    subst (Going asked names (suc l) p s t) (sym (set_made names w f l v g m a b u)) (record {
      sound = sound_but asked s roles.Other q y.sound;
      beside = subst (λ z. Beside asked names (suc l) z (behind s q)) (sym bp)
          (beside_followed asked names n (suc l) p s (behind s q) (omega arith) h.beside y.plainly y.scopes);
      plain = ap (λ z. z.scopes) bp ∙ take_all p.scopes;
      form = y.scopes;
      body = ap (λ z. z.in_body) bp;
      kind = refl;
      flags = ap (λ z. z.flags) bp;
    })

-- ---- all of them

-- an assignment to what is no vector stands for itself
simple_made : (names : Names) (w : List ℕ) (f l : ℕ) (v : List ℕ) (g m : ℕ) (a b : Syntax) →
    is_vector (kind_at (marked names a)) ≡ false →
    let e = node forms.AssignNode v g m (more a (more b none)) in
    scalarised (marked names (node forms.SimpleNode w f l (more e none))) ≡
    node forms.SimpleNode w f l (forest1 (scalar (marked names e)))
unfolding scalarised marked marked_parts scalar
simple_made names w f l v g m a b h =
    let e = node forms.AssignNode v g m (more a (more b none)) in
    let t = node forms.SimpleNode w f l (more e none) in
    ap (λ z. if z then set_block (span_of t) (operator_in (setting_in v)) (marked names a)
    (marked (kinds.behind names a) b) else scalar (marked names t)) h

simple_assigns : (asked : Asked) (names : Names) (n : ℕ) (p s : Env) (w : List ℕ) (f l : ℕ) (v : List ℕ) (g m : ℕ)
    (a b : Syntax) → let e = node forms.AssignNode v g m (more a (more b none)) in
    let t = node forms.SimpleNode w f l (more e none) in IsExpressionOf true e → (c : Bool) →
    is_vector (kind_at (marked names a)) ≡ c → Placed asked names n p s t →
    Going asked names (suc l) p s t (scalarised (marked names t))
unfolding marked_parts
simple_assigns asked names n p s w f l v g m a b i true u h = simple_set asked names n p s w f l v g m a b i u h
simple_assigns asked names n p s w f l v g m a b i false u h =
    let e = node forms.AssignNode v g m (more a (more b none)) in
    let t = node forms.SimpleNode w f l (more e none) in
    subst (Going asked names (suc l) p s t) (sym (simple_made names w f l v g m a b u))
    (simple_value asked names n p s w f l e i (whole_apart names forms.AssignNode v g m (more a (more b none)) i
    (simple_stays names w f l e h.stays) u) h)

simple_other : (asked : Asked) (names : Names) (n : ℕ) (p s : Env) (w : List ℕ) (f l : ℕ) (e : Syntax) →
    let t = node forms.SimpleNode w f l (more e none) in IsExpressionOf true e → Placed asked names n p s t →
    scalarised (marked names t) ≡ node forms.SimpleNode w f l (forest1 (scalar (marked names e))) →
    is_of_vectors Whole (marked names e) ≡ false → Going asked names (suc l) p s t (scalarised (marked names t))
simple_other asked names n p s w f l e i h q v =
    subst (Going asked names (suc l) p s (node forms.SimpleNode w f l (more e none))) (sym q)
    (simple_value asked names n p s w f l e i v h)

simple_expression : (asked : Asked) (names : Names) (n : ℕ) (p s : Env) (w : List ℕ) (f l : ℕ) (e : Syntax) →
    let t = node forms.SimpleNode w f l (more e none) in IsExpressionOf true e → Placed asked names n p s t →
    Going asked names (suc l) p s t (scalarised (marked names t))
unfolding scalarised marked marked_parts scalar
simple_expression asked names n p s w f l (node forms.AssignNode v g m (more a (more b none))) i h =
    simple_assigns asked names n p s w f l v g m a b i (is_vector (kind_at (marked names a))) refl h
simple_expression asked names n p s w f l (node forms.AssignNode v g m none) i h = absurd i
simple_expression asked names n p s w f l (node forms.AssignNode v g m (more a none)) i h = absurd i
simple_expression asked names n p s w f l (node forms.AssignNode v g m (more a (more b (more c cs)))) i h = absurd i
simple_expression asked names n p s w f l (node form v g m ps) i h =
    let e = node form v g m ps in
    simple_other asked names n p s w f l e i h refl (whole_apart names form v g m ps i
    (simple_stays names w f l e h.stays) refl)

-- a simple statement goes on side by side with its plain form
pub simple_goes : (asked : Asked) (names : Names) (n : ℕ) (p s : Env) (w : List ℕ) (f l : ℕ) (parts : Forest) →
    IsStatementOf true (node forms.SimpleNode w f l parts) →
    Placed asked names n p s (node forms.SimpleNode w f l parts) →
    Going asked names (suc l) p s (node forms.SimpleNode w f l parts)
    (scalarised (marked names (node forms.SimpleNode w f l parts)))
simple_goes asked names n p s w f l none i h = simple_nothing asked names n p s w f l h
simple_goes asked names n p s w f l (more e none) i h = simple_expression asked names n p s w f l e i h
simple_goes asked names n p s w f l (more e (more c cs)) i h = absurd i
