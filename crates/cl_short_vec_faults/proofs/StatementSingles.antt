-- Statements of one token, returns, labels and simple statements go on side by side.
use Rattle.std.proofs.Common.{◌≡◌, ℕ, suc, ◌≤◌, List, [], ◌∷◌, true}
use Rattle.std.proofs.Common.{refl, ap, sym, ◌∙◌, subst, arith}
use Rattle.cl_tree.specs.declared.tree.Form.TheVariants as forms
use Rattle.cl_tree.specs.Syntax.{Syntax, node, none, more}
use Rattle.cl_tree.specs.Nodes.{forest1}
use Rattle.cl_meaning.specs.declared.kind.Role.TheVariants as roles
use Rattle.cl_meaning.specs.Environment.{Env}
use Rattle.cl_meaning.specs.Kinds.{kind_step}
use Rattle.cl_meaning.specs.Visible.{inside, behind, behind_parts, later, restored, left, closed, kind_of, kinds_of}
use Rattle.cl_meaning.specs.Faults.{Asked}
use Rattle.cl_check_sound.specs.Shape.{IsExpressionOf}
use Rattle.cl_short_vec.specs.declared.roles.Role.TheVariants.{Free}
use Rattle.cl_short_vec.specs.Kinds.{Names}
use Rattle.cl_short_vec.specs.Marks.{marked, marked_parts, kind_by}
use Rattle.cl_short_vec.specs.Roles.{role_of}
use Rattle.cl_short_vec.specs.Faults.{refusals}
use Rattle.cl_short_vec.specs.Scalar.{scalar}
use Rattle.cl_short_vec.specs.Unit.{scalarised}
use Rattle.cl_short_vec_faults.specs.PlainForm.{plain_of, plains_of}
use Rattle.cl_short_vec_faults.specs.Beside.{Beside}
use Rattle.cl_short_vec_faults.proofs.Ordered.{ordered_le}
use Rattle.cl_short_vec_faults.proofs.OuterKept.{take_all}
use Rattle.cl_short_vec_faults.proofs.Refused.{parts_stay}
use Rattle.cl_short_vec_faults.proofs.BesideMoves.{beside_marked, beside_later}
use Rattle.cl_short_vec_faults.proofs.StatementFaults.{break_sound, continue_sound, return_sound}
use Rattle.cl_short_vec_faults.proofs.StatementParts.{Going, Placed, shown, expression_scalar}

-- ---- out of a statement that leaves what is visible

pub beside_self : (asked : Asked) (names : Names) (n m : ℕ) (p s : Env) → n ≤ m → Beside asked names n p s →
    Beside asked names m (closed p p) (closed s s)
beside_self asked names n m p s l h = let x = h.plainly in
    beside_marked asked names m p s (closed p p) (closed s s) (take_all p.scopes) (take_all s.scopes) refl refl x.owner
    x.declared x.flags h.unflagged x.in_body x.in_loop x.in_switch x.labels x.arrays x.tables
    (beside_later asked names n m p s l h)

-- ---- `break` and `continue`

pub break_goes : (asked : Asked) (names : Names) (n : ℕ) (p s : Env) (w : List ℕ) (f l : ℕ) →
    Placed asked names n p s (node forms.BreakNode w f l none) →
    Going asked names (suc l) p s (node forms.BreakNode w f l none)
    (scalarised (marked names (node forms.BreakNode w f l none)))
unfolding scalarised marked marked_parts plain_of plains_of scalar behind behind_parts restored left inside kind_of
    kind_step
break_goes asked names n p s w f l h =
    let x = h.beside.plainly in
    let a = h.from in
    let b = ordered_le (node forms.BreakNode w f l none) h.ordered in
    record {
      sound = (tt, (break_sound asked p s w f l x.in_loop x.in_switch h.sound.1.0, tt));
      beside = beside_self asked names n (suc l) p s (omega arith) h.beside;
      plain = take_all p.scopes;
      form = take_all s.scopes;
      body = refl;
      kind = refl;
      flags = refl;
    }

pub continue_goes : (asked : Asked) (names : Names) (n : ℕ) (p s : Env) (w : List ℕ) (f l : ℕ) →
    Placed asked names n p s (node forms.ContinueNode w f l none) →
    Going asked names (suc l) p s (node forms.ContinueNode w f l none)
    (scalarised (marked names (node forms.ContinueNode w f l none)))
unfolding scalarised marked marked_parts plain_of plains_of scalar behind behind_parts restored left inside kind_of
    kind_step
continue_goes asked names n p s w f l h =
    let x = h.beside.plainly in
    let a = h.from in
    let b = ordered_le (node forms.ContinueNode w f l none) h.ordered in
    record {
      sound = (tt, (continue_sound asked p s w f l x.in_loop h.sound.1.0, tt));
      beside = beside_self asked names n (suc l) p s (omega arith) h.beside;
      plain = take_all p.scopes;
      form = take_all s.scopes;
      body = refl;
      kind = refl;
      flags = refl;
    }

-- ---- `return`

pub return_nothing : (asked : Asked) (names : Names) (n : ℕ) (p s : Env) (w : List ℕ) (f l : ℕ) →
    Placed asked names n p s (node forms.ReturnNode w f l none) →
    Going asked names (suc l) p s (node forms.ReturnNode w f l none)
    (scalarised (marked names (node forms.ReturnNode w f l none)))
unfolding scalarised marked marked_parts plain_of plains_of scalar behind behind_parts restored left inside kind_of
    kind_step kinds_of
return_nothing asked names n p s w f l h =
    let x = h.beside.plainly in
    let a = h.from in
    let b = ordered_le (node forms.ReturnNode w f l none) h.ordered in
    record {
      sound = (tt, (return_sound asked p s w f l none none x.owner refl h.sound.1.0, tt));
      beside = beside_self asked names n (suc l) p s (omega arith) h.beside;
      plain = take_all p.scopes;
      form = take_all s.scopes;
      body = refl;
      kind = refl;
      flags = refl;
    }

return_made : (names : Names) (w : List ℕ) (f l : ℕ) (a : Syntax) → IsExpressionOf true a →
    scalarised (marked names (node forms.ReturnNode w f l (more a none))) ≡
    node forms.ReturnNode w f l (forest1 (scalarised (marked names a)))
unfolding scalarised marked marked_parts scalar
return_made names w f l a h = ap (λ z. node forms.ReturnNode w f l (forest1 z)) (sym (expression_scalar names a h))

return_stays : (names : Names) (w : List ℕ) (f l : ℕ) (a : Syntax) →
    refusals Free (marked names (node forms.ReturnNode w f l (more a none))) ≡ [] → refusals Free (marked names a) ≡ []
unfolding marked marked_parts kind_by role_of
return_stays names w f l a r = (parts_stay Free _ _ _ (λ x y q. refl) r).0

-- behind a statement of one expression
return_behind : (env : Env) (w : List ℕ) (f l : ℕ) (a : Syntax) →
    behind env (node forms.ReturnNode w f l (forest1 a)) ≡ closed env (behind env a)
unfolding behind behind_parts restored left inside later
return_behind env w f l a = refl

pub return_value : (asked : Asked) (names : Names) (n : ℕ) (p s : Env) (w : List ℕ) (f l : ℕ) (a : Syntax) →
    IsExpressionOf true a → Placed asked names n p s (node forms.ReturnNode w f l (more a none)) →
    Going asked names (suc l) p s (node forms.ReturnNode w f l (more a none))
    (scalarised (marked names (node forms.ReturnNode w f l (more a none))))
unfolding plain_of plains_of inside kind_of kind_step kinds_of
return_value asked names n p s w f l a e h =
    let t = node forms.ReturnNode w f l (more a none) in
    let P = plain_of a in
    let q = scalarised (marked names a) in
    let y = h.beside.plainly in
    let x = shown asked names n p s roles.Other a e h.no_point.1.0 h.beside (return_stays names w f l a h.stays)
    h.sound.0.0 in
    let c = h.from in
    let d = ordered_le t h.ordered in
    let bp = return_behind p w f l P ∙ ap (closed p) x.plain in
    let bs = return_behind s w f l q ∙ ap (closed s) x.form in
    subst (Going asked names (suc l) p s t) (sym (return_made names w f l a e)) (record {
      sound = (
        (x.sound, tt),
        (
          return_sound asked p s w f l (forest1 P) (forest1 q) y.owner
              (ap (λ z. z ∷ []) x.kind) h.sound.1.0,
          tt,
        ),
      );
      beside = subst (λ z. Beside asked names (suc l) z (behind s (node forms.ReturnNode w f l (forest1 q)))) (sym bp)
          (subst (Beside asked names (suc l) (closed p p)) (sym bs)
          (beside_self asked names n (suc l) p s (omega arith) h.beside));
      plain = ap (λ z. z.scopes) bp ∙ take_all p.scopes;
      form = ap (λ z. z.scopes) bs ∙ take_all s.scopes;
      body = ap (λ z. z.in_body) bp;
      kind = refl;
      flags = ap (λ z. z.flags) bp;
    })
