-- A `for` goes on side by side: its head, and the parts behind it.
use Rattle.std.proofs.Common.{◌≡◌, ℕ, suc, ◌≤◌, ◌<◌, ◌^◌, List, [], ◌∷◌, ◌++◌, length, take, None, Some}
use Rattle.std.proofs.Common.{Bool, true, false, if◌then◌else◌, refl, ap, sym, ◌∙◌, subst, inl, inr, ◌⊎◌, arith}
use Rattle.cl_tree.specs.declared.tree.Form.TheVariants as forms
use Rattle.cl_tree.specs.Syntax.{Syntax, node, Forest, none, more, first_of, last_of}
use Rattle.cl_tree.specs.Nodes.{forest1}
use Rattle.cl_meaning.specs.declared.kind.Role.TheVariants as roles
use Rattle.cl_meaning.specs.Environment.{Env, Scope, empty_scope}
use Rattle.cl_meaning.specs.Kinds.{kind_step}
use Rattle.cl_meaning.specs.Visible.{inside, behind, behind_parts, later, kind_of, restored, left, closed}
use Rattle.cl_meaning.specs.Visible.{opened, in_loop, before_labels}
use Rattle.cl_meaning.specs.Faults.{Asked}
use Rattle.cl_check_sound.specs.Shape.{IsExpressionOf, IsStatementOf, IsDeclarationOf, IsSimpleOf}
use Rattle.cl_check_sound.specs.Sound.{SoundTree, SoundParts}
use Rattle.cl_short_vec.specs.declared.roles.Role as vector_roles
use Rattle.cl_short_vec.specs.declared.roles.Role.TheVariants.{Free, Head}
use Rattle.cl_short_vec.specs.Kinds.{Names}
use Rattle.cl_short_vec.specs.Kinds as kinds
use Rattle.cl_short_vec.specs.Marks.{Mark, mark, Marks, unmarked, marking, kind_at, kind_by, marked, marked_parts}
use Rattle.cl_short_vec.specs.Roles as vector_places
use Rattle.cl_short_vec.specs.Faults.{is_end, refusals, refusals_in}
use Rattle.cl_short_vec.specs.Scalar.{scalar}
use Rattle.cl_short_vec.specs.Unit.{scalarised, all_scalarised, loop_parts, is_declaration}
use Rattle.cl_short_vec_faults.specs.PlainForm.{plain_of, plains_of}
use Rattle.cl_short_vec_faults.specs.Plainly.{NoPoint}
use Rattle.cl_short_vec_faults.specs.UnitLaw.{DeclaredNames}
use Rattle.cl_short_vec_faults.proofs.OrderedMarks.{same_tree}
use Rattle.cl_short_vec_faults.specs.SoundBut.{SoundBut, AllSoundBut}
use Rattle.cl_short_vec_faults.specs.Beside.{Beside}
use Rattle.cl_short_vec_faults.specs.Leaves.{LeavesFit, AllLeavesFit}
use Rattle.cl_short_vec_faults.proofs.Ordered.{Ordered, ordered_le, ordered_in_le}
use Rattle.cl_short_vec_faults.proofs.TokenFacts.{Facts}
use Rattle.cl_short_vec_faults.proofs.Refused.{AllStay, none_of, node_none, part_none}
use Rattle.cl_short_vec_faults.proofs.OuterKept.{front_kept, parts_kept, behind_outer, outer_length}
use Rattle.cl_short_vec_faults.proofs.SameFunctions.{parts_functions}
use Rattle.cl_short_vec_faults.proofs.BesideMoves.{beside_loop, beside_opened, beside_closed}
use Rattle.cl_short_vec_faults.proofs.StatementFaults.{for_quiet, simple_quiet}
use Rattle.cl_short_vec_faults.proofs.StatementParts.{Going, Placed, AllGo, few_in, shown, expression_scalar}
use Rattle.cl_short_vec_faults.proofs.StatementSingles.{beside_self}
use Rattle.cl_short_vec_faults.proofs.Following.{HeadsFollow}
use Rattle.cl_short_vec_faults.proofs.LoopParts.{BehindHead, rest_go}

-- ---- the head

-- what the head needs, where the scope of the loop is open
record HeadPlaced (asked : Asked) (names : Names) (n : ℕ) (p s : Env) (d : Syntax) : Type 0 where
  beside : Beside asked names n p s
  ordered : Ordered d
  from : n ≤ first_of d
  few : last_of d < 2 ^ 64
  facts : Facts d
  no_point : NoPoint d
  declared : DeclaredNames d
  stays : refusals Head (marked names d) ≡ []
  leaves : LeavesFit p (marked names d)
  sound : SoundTree asked p roles.Other (plain_of d)

-- behind the head, where `q` stands for it
record HeadGoing (asked : Asked) (names : Names) (p s : Env) (d q : Syntax) : Type 0 where
  sound : SoundBut asked s roles.Other q
  beside : Beside asked (kinds.behind names d) (suc (last_of d)) (behind p (plain_of d)) (behind s q)
  plain : last_of (plain_of d) ≡ last_of d
  form : last_of q ≡ last_of d
  body : (behind p (plain_of d)).in_body ≡ p.in_body
  flags : (behind p (plain_of d)).flags ≡ p.flags

-- a declaration
declared_head : HeadsFollow Head → (asked : Asked) (names : Names) (n : ℕ) (p s : Env) (w : List ℕ) (f l : ℕ)
    (ps : Forest) → IsDeclarationOf true (node forms.DeclareNode w f l ps) →
    HeadPlaced asked names n p s (node forms.DeclareNode w f l ps) →
    HeadGoing asked names p s (node forms.DeclareNode w f l ps)
    (scalarised (marked names (node forms.DeclareNode w f l ps)))
unfolding plain_of scalarised marked behind restored left
declared_head heads asked names n p s w f l ps e h =
    let x = heads asked names n p s (node forms.DeclareNode w f l ps) e (record {
      beside = h.beside;
      ordered = h.ordered;
      behind' = h.from;
      few = h.few;
      facts = h.facts;
      no_point = h.no_point;
      declared = h.declared;
      stays = h.stays;
      leaves = h.leaves;
      sound = h.sound;
    }) in record {
      sound = x.0;
      beside = x.1;
      plain = refl;
      form = refl;
      body = refl;
      flags = refl;
    }

-- no expression
empty_head : (asked : Asked) (names : Names) (n : ℕ) (p s : Env) (w : List ℕ) (f l : ℕ) →
    HeadPlaced asked names n p s (node forms.SimpleNode w f l none) →
    HeadGoing asked names p s (node forms.SimpleNode w f l none)
    (scalar (marked names (node forms.SimpleNode w f l none)))
unfolding plain_of plains_of scalar marked marked_parts behind behind_parts restored left inside
empty_head asked names n p s w f l h =
    let a = h.from in
    let b = ordered_le (node forms.SimpleNode w f l none) h.ordered in
    record {
      sound = (tt, ((λ k e. simple_quiet asked s w f l none k), tt));
      beside = beside_self asked names n (suc l) p s (omega arith) h.beside;
      plain = refl;
      form = refl;
      body = refl;
      flags = refl;
    }

-- an expression
simple_made : (names : Names) (w : List ℕ) (f l : ℕ) (a : Syntax) → IsExpressionOf true a →
    scalar (marked names (node forms.SimpleNode w f l (more a none))) ≡
    node forms.SimpleNode w f l (forest1 (scalarised (marked names a)))
unfolding marked marked_parts scalar
simple_made names w f l a h = ap (λ z. node forms.SimpleNode w f l (forest1 z)) (sym (expression_scalar names a h))

simple_stays : (names : Names) (w : List ℕ) (f l : ℕ) (a : Syntax) →
    refusals Head (marked names (node forms.SimpleNode w f l (more a none))) ≡ [] → refusals Free (marked names a) ≡ []
unfolding marked marked_parts kind_by vector_places.role_of
simple_stays names w f l a r = part_none Head (node forms.SimpleNode w f l (more a none))
    (kind_at (marked names (node forms.SimpleNode w f l (more a none)))) (marked names a) r

simple_behind : (env : Env) (w : List ℕ) (f l : ℕ) (a : Syntax) →
    behind env (node forms.SimpleNode w f l (forest1 a)) ≡ closed env (behind env a)
unfolding behind behind_parts restored left inside later
simple_behind env w f l a = refl

simple_head : (asked : Asked) (names : Names) (n : ℕ) (p s : Env) (w : List ℕ) (f l : ℕ) (a : Syntax) →
    IsExpressionOf true a → HeadPlaced asked names n p s (node forms.SimpleNode w f l (more a none)) →
    HeadGoing asked names p s (node forms.SimpleNode w f l (more a none))
    (scalar (marked names (node forms.SimpleNode w f l (more a none))))
unfolding plain_of plains_of inside
simple_head asked names n p s w f l a e h =
    let t = node forms.SimpleNode w f l (more a none) in
    let P = plain_of a in
    let q = scalarised (marked names a) in
    let x = shown asked names n p s roles.Whole a e h.no_point.1.0 h.beside (simple_stays names w f l a h.stays)
    h.sound.0.0 in
    let c = h.from in
    let d = ordered_le t h.ordered in
    let bp = simple_behind p w f l P ∙ ap (closed p) x.plain in
    let bs = simple_behind s w f l q ∙ ap (closed s) x.form in
    subst (HeadGoing asked names p s t) (sym (simple_made names w f l a e)) (record {
      sound = ((x.sound, tt), ((λ k z. simple_quiet asked s w f l (forest1 q) k), tt));
      beside = subst (λ z. Beside asked names (suc l) z (behind s (node forms.SimpleNode w f l (forest1 q)))) (sym bp)
          (subst (Beside asked names (suc l) (closed p p)) (sym bs)
          (beside_self asked names n (suc l) p s (omega arith) h.beside));
      plain = refl;
      form = refl;
      body = ap (λ z. z.in_body) bp;
      flags = ap (λ z. z.flags) bp;
    })

-- what stands for the head of a loop
abbrev head_form : Mark → Syntax
head_form m = if is_declaration m then scalarised m else scalar m

head_goes : HeadsFollow Head → (asked : Asked) (names : Names) (n : ℕ) (p s : Env) (d : Syntax) →
    IsDeclarationOf true d ⊎ IsSimpleOf true d → HeadPlaced asked names n p s d →
    HeadGoing asked names p s d (head_form (marked names d))
unfolding marked
head_goes heads asked names n p s (node forms.DeclareNode w f l ps) (inl e) h =
    declared_head heads asked names n p s w f l ps e h
head_goes heads asked names n p s (node forms.SimpleNode w f l none) (inr e) h = empty_head asked names n p s w f l h
head_goes heads asked names n p s (node forms.SimpleNode w f l (more a none)) (inr e) h =
    simple_head asked names n p s w f l a e h
head_goes heads asked names n p s (node forms.SimpleNode w f l (more a (more b bs))) (inr e) h = absurd e
head_goes heads asked names n p s t (inl e) h = absurd e
head_goes heads asked names n p s t (inr e) h = absurd e

-- ---- the whole

-- nothing is refused behind the head
rest_in : (role : vector_roles.Role) (whole : Mark) (ms : Marks) →
    ((y : Bool) (q : Mark) → vector_places.role_of role whole false y q ≡ Free) →
    refusals_in role whole false ms ≡ [] → AllStay ms
unfolding refusals_in
rest_in role whole unmarked g e = tt
rest_in role whole (marking q qs) g e =
    let d = none_of (refusals (vector_places.role_of role whole false (is_end qs) q) q)
    (refusals_in role whole false qs) e in
    (subst (λ z. refusals z q ≡ []) (g (is_end qs) q) d.0, rest_in role whole qs g d.1)

for_stays : (names : Names) (w : List ℕ) (f l : ℕ) (d : Syntax) (ps : Forest) →
    refusals Free (marked names (node forms.ForNode w f l (more d ps))) ≡ [] → (refusals Head (marked names d) ≡ []) ×
    AllStay (marked_parts forms.ForNode (more d ps) (kinds.behind names d) false ps)
unfolding marked marked_parts kind_by vector_places.role_of refusals_in
for_stays names w f l d ps r =
    let t = node forms.ForNode w f l (more d ps) in
    let k = kind_at (marked names t) in
    let m = marked names d in
    let ms = marked_parts forms.ForNode (more d ps) (kinds.behind names d) false ps in
    let x = none_of (refusals Head m) (refusals_in Free (mark t k (marking m ms)) false ms)
    (node_none Free t k (marking m ms) r).0 in
    (x.0, rest_in Free (mark t k (marking m ms)) ms (λ y q. refl) x.1)

for_leaves : (p : Env) (names : Names) (w : List ℕ) (f l : ℕ) (d : Syntax) (ps : Forest) →
    LeavesFit p (marked names (node forms.ForNode w f l (more d ps))) →
    LeavesFit (opened (in_loop p)) (marked names d) ×
    AllLeavesFit (behind (opened (in_loop p)) (plain_of d)) forms.ForNode false None
    (marked_parts forms.ForNode (more d ps) (kinds.behind names d) false ps)
unfolding marked marked_parts LeavesFit inside later
for_leaves p names w f l d ps h = (
  h.1.1,
  subst (λ z. AllLeavesFit (behind (opened (in_loop p)) (plain_of z))
      forms.ForNode false None (marked_parts forms.ForNode (more d ps) (kinds.behind names d) false ps))
      (same_tree names d) h.1.2,
)

for_made : (names : Names) (w : List ℕ) (f l : ℕ) (d : Syntax) (ps : Forest) →
    scalarised (marked names (node forms.ForNode w f l (more d ps))) ≡
    node forms.ForNode w f l (more (head_form (marked names d))
    (all_scalarised (marked_parts forms.ForNode (more d ps) (kinds.behind names d) false ps)))
unfolding marked marked_parts scalarised loop_parts
for_made names w f l d ps = refl

for_sound : (asked : Asked) (p : Env) (w : List ℕ) (f l : ℕ) (d : Syntax) (ps : Forest) →
    SoundTree asked p roles.Other (plain_of (node forms.ForNode w f l (more d ps))) →
    SoundTree asked (opened (in_loop p)) roles.Other (plain_of d) ×
    SoundParts asked (behind (opened (in_loop p)) (plain_of d)) forms.ForNode (Some (last_of (plain_of d)))
    (plains_of ps)
unfolding plain_of plains_of inside later
for_sound asked p w f l d ps h = h.0

-- out of a loop
for_behind : (env : Env) (w : List ℕ) (f l : ℕ) (ps : Forest) → behind env (node forms.ForNode w f l ps) ≡
    before_labels env (behind_parts (opened (in_loop env)) forms.ForNode true ps)
unfolding behind restored left inside
for_behind env w f l ps = refl

for_kept : (env : Env) (ps : Forest) →
    take (length env.scopes) (behind_parts (opened (in_loop env)) forms.ForNode true ps).scopes ≡ env.scopes
for_kept env ps = front_kept env.scopes empty_scope (behind_parts (opened (in_loop env)) forms.ForNode true ps).scopes
    (parts_kept ps forms.ForNode true (opened (in_loop env)))

for_out : (asked : Asked) (names after : Names) (n m : ℕ) (p s : Env) (w : List ℕ) (f l : ℕ) (ps qs : Forest) → n ≤ m →
    Beside asked names n p s → Beside asked after m (behind_parts (opened (in_loop p)) forms.ForNode true ps)
    (behind_parts (opened (in_loop s)) forms.ForNode true qs) →
    Beside asked names m (behind p (node forms.ForNode w f l ps)) (behind s (node forms.ForNode w f l qs))
for_out asked names after n m p s w f l ps qs nm h b =
    subst (λ z. Beside asked names m z (behind s (node forms.ForNode w f l qs))) (sym (for_behind p w f l ps))
    (subst (Beside asked names m (before_labels p (behind_parts (opened (in_loop p)) forms.ForNode true ps)))
    (sym (for_behind s w f l qs))
    (beside_closed asked names after n m p s (behind_parts (opened (in_loop p)) forms.ForNode true ps)
    (behind_parts (opened (in_loop s)) forms.ForNode true qs) nm (for_kept p ps) (for_kept s qs)
    (parts_functions ps forms.ForNode true (opened (in_loop p))) b h))

longer : (ss : List Scope) (e : Scope) → length ss ≤ length (ss ++ e ∷ [])
longer [] e = omega arith
longer (s ∷ ss) e = let a = longer ss e in omega arith

for_deep : (s : Env) (q : Syntax) → 2 ≤ length s.scopes → 2 ≤ length (behind (opened (in_loop s)) q).scopes
for_deep s q h =
    let a = outer_length (opened (in_loop s)).scopes (behind (opened (in_loop s)) q).scopes
    (behind_outer q (opened (in_loop s))) in
    let b = longer s.scopes empty_scope in
    subst (λ z. 2 ≤ z) (sym a) (omega arith)

-- a loop of a head and the parts behind it
for_all : HeadsFollow Head → (asked : Asked) (names : Names) (n : ℕ) (p s : Env) (w : List ℕ) (f l : ℕ) (d : Syntax)
    (ps : Forest) → IsDeclarationOf true d ⊎ IsSimpleOf true d → BehindHead ps → AllGo ps →
    Placed asked names n p s (node forms.ForNode w f l (more d ps)) →
    Going asked names (suc l) p s (node forms.ForNode w f l (more d ps))
    (scalarised (marked names (node forms.ForNode w f l (more d ps))))
unfolding plain_of plains_of inside later behind_parts kind_of kind_step
for_all heads asked names n p s w f l d ps e g go h =
    let t = node forms.ForNode w f l (more d ps) in
    let p' = opened (in_loop p) in
    let s' = opened (in_loop s) in
    let P = plain_of d in
    let q = head_form (marked names d) in
    let names' = kinds.behind names d in
    let ms = marked_parts forms.ForNode (more d ps) names' false ps in
    let st = for_stays names w f l d ps h.stays in
    let le = for_leaves p names w f l d ps h.leaves in
    let so = for_sound asked p w f l d ps h.sound in
    let a = h.from in
    let b = h.ordered.0 in
    let c = ordered_in_le ps (suc (last_of d)) (suc l) h.ordered.2 in
    let i = ordered_le t h.ordered in
    let x = head_goes heads asked names n p' s' d e (record {
      beside = beside_opened asked names n (in_loop p) (in_loop s) (beside_loop asked names n p s h.beside);
      ordered = h.ordered.1;
      from = omega arith;
      few = few_in (last_of d) (suc l) (2 ^ 64) c h.few;
      facts = h.facts.1.0;
      no_point = h.no_point.1.0;
      declared = h.declared.1.0;
      stays = st.0;
      leaves = le.0;
      sound = so.0;
    }) in
    let y = rest_go asked (more d ps) names' d (suc (last_of d)) (suc l) (behind p' P) (behind s' q) ps g go h.facts.0
    (record {
      beside = x.beside;
      in_body = x.body ∙ h.in_body;
      flags = x.flags ∙ h.flags;
      deep = for_deep s q h.deep;
      ordered = h.ordered.2;
      few = h.few;
      facts = h.facts.1.1;
      no_point = h.no_point.1.1;
      declared = h.declared.1.1;
      stays = st.1;
      leaves = le.1;
      sound = subst (λ z. SoundParts asked (behind p' P) forms.ForNode (Some z) (plains_of ps)) x.plain so.1;
    }) in
    let Q = more q (all_scalarised ms) in
    subst (λ z. Going asked names (suc l) p s t z) (sym (for_made names w f l d ps)) (record {
      sound = (
        (
          x.sound,
          subst (λ z. AllSoundBut asked (behind s' q) forms.ForNode (Some z) (all_scalarised ms))
              (sym x.form) y.sound,
        ),
        ((λ k z. for_quiet asked s w f l Q k), tt),
      );
      beside = for_out asked names y.after n (suc l) p s w f l (more P (plains_of ps)) Q (omega arith) h.beside
          y.beside;
      plain = ap (λ z. z.scopes) (for_behind p w f l (more P (plains_of ps))) ∙ for_kept p (more P (plains_of ps));
      form = ap (λ z. z.scopes) (for_behind s w f l Q) ∙ for_kept s Q;
      body = ap (λ z. z.in_body) (for_behind p w f l (more P (plains_of ps)));
      flags = ap (λ z. z.flags) (for_behind p w f l (more P (plains_of ps)));
      kind = refl;
    })

-- a `for`
pub for_goes : HeadsFollow Head → (asked : Asked) (names : Names) (n : ℕ) (p s : Env) (w : List ℕ) (f l : ℕ)
    (parts : Forest) → IsStatementOf true (node forms.ForNode w f l parts) → AllGo parts →
    Placed asked names n p s (node forms.ForNode w f l parts) →
    Going asked names (suc l) p s (node forms.ForNode w f l parts)
    (scalarised (marked names (node forms.ForNode w f l parts)))
for_goes heads asked names n p s w f l none e go h = absurd e
for_goes heads asked names n p s w f l (more d none) e go h = absurd e
for_goes heads asked names n p s w f l (more d (more t none)) e go h =
    for_all heads asked names n p s w f l d (more t none) e.0 e.1 go.1 h
for_goes heads asked names n p s w f l (more d (more c (more t none))) e go h =
    for_all heads asked names n p s w f l d (more c (more t none)) e.0 (e.1, e.2) go.1 h
for_goes heads asked names n p s w f l (more d (more c (more u (more t none)))) e go h =
    for_all heads asked names n p s w f l d (more c (more u (more t none))) e.0 (e.1, e.2, e.3) go.1 h
for_goes heads asked names n p s w f l (more d (more c (more u (more t (more v vs))))) e go h = absurd e
