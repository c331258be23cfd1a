-- The labels of a switch: what each statement adds to those before it.
use Rattle.std.proofs.Common.{◌≡◌, ℕ, ◌+◌, ◌≤◌, ℤ, List, [], ◌∷◌, ◌++◌, append_assoc, Option, None, Some, Bool, true}
use Rattle.std.proofs.Common.{false, not, ◌||◌, if◌then◌else◌, refl, ap, sym, ◌∙◌, subst, inl, inr, ◌⊎◌, arith}
use Rattle.std.proofs.lemmas.Bool.{false≢true}
use Rattle.std.specs.Ordering.{int_eq}
use Rattle.std.proofs.lemmas.Bool.Decides.{Decides-int_eq}
use Rattle.wg_num.specs.declared.types.Place.{Place}
use Rattle.wg_num.specs.Wrap.{IsValue, wrap_of}
use Rattle.wg_num.proofs.WrapLaws.{IsValue-wrap}
use Rattle.cl_model.specs.Lists.{Each, IsOneOf, AllDiffer}
use Rattle.cl_tree.specs.declared.tree.Form.TheVariants as forms
use Rattle.cl_tree.specs.Syntax.{Syntax, node, Forest, none, more}
use Rattle.cl_meaning.specs.declared.constant.Constant.{Constant}
use Rattle.cl_meaning.specs.Constants.{constant_of}
use Rattle.cl_meaning.specs.declared.fault.Fault.TheVariants as faults
use Rattle.cl_meaning.specs.declared.kind.Role.{Role}
use Rattle.cl_meaning.specs.Environment.{Env, Labels, place_of}
use Rattle.cl_meaning.specs.Kinds.{is_some}
use Rattle.cl_meaning.specs.Visible.{later, restored, left, behind, behind_value, kind_of, with_label, with_default}
use Rattle.cl_meaning.specs.Visible.{in_loop, opened, visible_at}
use Rattle.cl_meaning.specs.Faults.{Asked, given, is_among, is_repeated}
use Rattle.cl_meaning.specs.Typed.{What, nothing, value, target, offset, values, barrier, fence, lines, statement}
use Rattle.cl_meaning.specs.Typed.{labelled, function, functions, Piece, Built}
use Rattle.cl_meaning.specs.Statements.{body_of, label_of, labelled_by}
use Rattle.cl_meaning.specs.Statements as statements
use Rattle.cl_meaning.specs.Statements.{second_is_test}
use Rattle.cl_meaning.specs.Expressions.{read}
use Rattle.cl_meaning.specs.Meant as meants
use Rattle.cl_meaning.specs.Meant.{MadeParts, meant, parts_meant}
use Rattle.cl_check_sound.specs.Shape.{IsExpression}
use Rattle.cl_check_sound.proofs.Growth.{simple_leaves, return_leaves, break_leaves, continue_leaves}
use Rattle.cl_check_sound.proofs.Parts.{if_behind, if_built, else_behind, else_built, while_behind, while_built}
use Rattle.cl_check_sound.proofs.Parts.{do_behind, do_built, for_behind, for_built, for1_behind, for1_built}
use Rattle.cl_check_sound.proofs.Parts.{for1_pieces, for2_behind, for2_built, on_labels, switch_behind, switch_built}
use Rattle.cl_check_sound.proofs.Parts.{on_meant, case_env, default_env, case_behind, case_built, default_behind}
use Rattle.cl_check_sound.proofs.Parts.{default_built, break_built, continue_built, simple0_built, simple_built}
use Rattle.cl_check_sound.proofs.Parts.{return0_built, return_built}
use Rattle.cl_check_sound.proofs.Induction.{SoundNode, Cases}

-- ---- the labels in front of a statement

abbrev pub labels_in : What → List ℤ
labels_in (labelled ls o s) = ls
labels_in w = []

abbrev pub default_in : What → Bool
default_in (labelled ls o s) = o
default_in w = false

abbrev pub either : Bool → Bool → Bool
either true b = true
either false b = b

append_nothing : {A : Type 0} (xs : List A) → xs ++ [] ≡ xs
append_nothing [] = refl
append_nothing (x ∷ xs) = ap (λ z. x ∷ z) (append_nothing xs)

either_false : (b : Bool) → either b false ≡ b
either_false true = refl
either_false false = refl

labels_by : (ls : List ℤ) (o : Bool) (w : What) → labels_in (labelled_by ls o w) ≡ ls ++ labels_in w
labels_by ls o (labelled ls' o' s) = refl
labels_by ls o w = sym (append_nothing ls)

default_by : (ls : List ℤ) (w : What) → default_in (labelled_by ls false w) ≡ default_in w
default_by ls (labelled ls' o' s) = refl
default_by ls w = refl

default_true : (ls : List ℤ) (w : What) → default_in (labelled_by ls true w) ≡ true
default_true ls (labelled ls' o' s) = refl
default_true ls w = refl

-- a statement behind its labels is as it was
pub body_by : (ls : List ℤ) (o : Bool) (w : What) → body_of (labelled_by ls o w) ≡ body_of w
body_by ls o (labelled ls' o' s) = refl
body_by ls o nothing = refl
body_by ls o (value e) = refl
body_by ls o (target p) = refl
body_by ls o (offset p) = refl
body_by ls o (values es) = refl
body_by ls o (barrier site) = refl
body_by ls o fence = refl
body_by ls o (lines l) = refl
body_by ls o (statement s) = refl
body_by ls o (function g) = refl
body_by ls o (functions gs) = refl

-- ---- one value more

among_is : (v : ℤ) (us : List ℤ) → IsOneOf us v → is_among v us ≡ true
among_is v [] h = absurd h
among_is v (u ∷ us) (inl e) = first (int_eq v u) (same v u e)
  where
    same : (a b : ℤ) → b ≡ a → int_eq a b ≡ true
    same a b e = subst (λ z. int_eq a z ≡ true) (sym e) ((Decides-int_eq a a).1 refl)

    first : (b : Bool) → b ≡ true → (b || is_among v us) ≡ true
    first true e = refl
    first false e = absurd (false≢true e)
among_is v (u ∷ us) (inr h) = second (int_eq v u) (among_is v us h)
  where
    second : (b : Bool) → is_among v us ≡ true → (b || is_among v us) ≡ true
    second true e = refl
    second false e = e

is_one_of_append : {A : Type 0} (xs : List A) (y x : A) → IsOneOf (xs ++ y ∷ []) x → IsOneOf xs x ⊎ (y ≡ x)
is_one_of_append [] y x (inl e) = inr e
is_one_of_append [] y x (inr h) = absurd h
is_one_of_append (z ∷ xs) y x (inl e) = inl (inl e)
is_one_of_append (z ∷ xs) y x (inr h) = by (is_one_of_append xs y x h)
  where
    by : IsOneOf xs x ⊎ (y ≡ x) → IsOneOf (z ∷ xs) x ⊎ (y ≡ x)
    by (inl k) = inl (inr k)
    by (inr e) = inr e

differ_more : {A : Type 0} (xs : List A) (y : A) → AllDiffer xs → (IsOneOf xs y → ⊥) → AllDiffer (xs ++ y ∷ [])
differ_more [] y d n = ((λ h. h), tt)
differ_more (x ∷ xs) y d n = ((λ h. by (is_one_of_append xs y x h)), differ_more xs y d.1 (λ h. n (inr h)))
  where
    by : IsOneOf xs x ⊎ (y ≡ x) → ⊥
    by (inl k) = d.0 k
    by (inr e) = n (inl (sym e))

-- a value that is not repeated
fresh_value : (v : ℤ) (us : List ℤ) → is_among v us ≡ false → AllDiffer us → AllDiffer (us ++ v ∷ [])
fresh_value v us h d = differ_more us v d (λ k. false≢true (sym h ∙ among_is v us k))

each_append : (P : ℤ → Type 0) (xs ys : List ℤ) → Each P xs → Each P ys → Each P (xs ++ ys)
each_append P [] ys h k = k
each_append P (x ∷ xs) ys h k = (h.0, each_append P xs ys h.1 k)

-- ---- what a statement adds

pub record Labelled (l : Labels) (w : What) (after : Option Labels) : Type 0 where
  pub after' : after ≡ Some (record {
    of = l.of;
    values = l.values ++ labels_in w;
    other = either l.other (default_in w);
  })
  pub fresh : AllDiffer l.values → AllDiffer (l.values ++ labels_in w)
  pub fit : Each (λ v. IsValue l.of v) (labels_in w)
  pub once : default_in w ≡ true → l.other ≡ false

abbrev pub StatementLabels : Env → List Place → Syntax → Type 0
StatementLabels env sites t =
    (l : Labels) → env.labels ≡ Some l → Labelled l (meant env sites t).piece.what (behind env t).labels

-- a statement without labels
plain_label : (l : Labels) (w : What) (after : Option Labels) → labels_in w ≡ [] → default_in w ≡ false →
    after ≡ Some l → Labelled l w after
plain_label l w after e d a = record {
  after' =
      a ∙ ap Some (sym (ap (λ z. record { of = l.of; values = l.values ++ z; other = either l.other (default_in w) })
      e ∙ (ap (λ z. record { of = l.of; values = z; other = either l.other (default_in w) })
      (append_nothing l.values) ∙ (ap (λ z. record { of = l.of; values = l.values; other = either l.other z })
      d ∙ ap (λ z. record { of = l.of; values = l.values; other = z }) (either_false l.other)))));
  fresh = λ h. subst (λ z. AllDiffer (l.values ++ z)) (sym e) (subst AllDiffer (sym (append_nothing l.values)) h);
  fit = subst (λ z. Each (λ v. IsValue l.of v) z) (sym e) tt;
  once = λ h. absurd (false≢true (sym d ∙ h));
}

-- what a statement is made into, and what it leaves
unlabelled : (env later : Env) (w w' : What) → w ≡ w' → labels_in w' ≡ [] → default_in w' ≡ false →
    later.labels ≡ env.labels → (l : Labels) → env.labels ≡ Some l → Labelled l w later.labels
unlabelled env later w w' e h d a l k = plain_label l w later.labels (ap labels_in e ∙ h) (ap default_in e ∙ d) (a ∙ k)

case_label : (l : Labels) (x : ℤ) (w : What) (after : Option Labels) → is_among x l.values ≡ false → IsValue l.of x →
    Labelled (record l { values = l.values ++ x ∷ [] }) w after → Labelled l (labelled_by (x ∷ []) false w) after
case_label l x w after n v k = record {
  after' = k.after' ∙ ap Some (ap (λ z. record { of = l.of; values = z; other = either l.other (default_in w) })
      (append_assoc l.values (x ∷ []) (labels_in w) ∙ ap (λ z. l.values ++ z) (sym (labels_by (x ∷ []) false w))) ∙
      ap (λ z. record {
        of = l.of;
        values = l.values ++ labels_in (labelled_by (x ∷ []) false w);
        other = either l.other z;
      }) (sym (default_by (x ∷ []) w)));
  fresh = λ h. subst AllDiffer (append_assoc l.values (x ∷ []) (labels_in w) ∙
      ap (λ z. l.values ++ z) (sym (labels_by (x ∷ []) false w))) (k.fresh (fresh_value x l.values n h));
  fit = subst (λ z. Each (λ v. IsValue l.of v) z) (sym (labels_by (x ∷ []) false w)) (v, k.fit);
  once = λ h. k.once (sym (default_by (x ∷ []) w) ∙ h);
}

default_label : (l : Labels) (w : What) (after : Option Labels) → l.other ≡ false →
    Labelled (record l { other = true }) w after → Labelled l (labelled_by [] true w) after
default_label l w after n k = record {
  after' = k.after' ∙ ap Some (ap (λ z. record { of = l.of; values = l.values ++ z; other = true })
      (sym (labels_by [] true w)) ∙ ap (λ z. record {
        of = l.of;
        values = l.values ++ labels_in (labelled_by [] true w);
        other = z;
      })
      (sym (ap (λ z. either z (default_in (labelled_by [] true w))) n ∙ default_true [] w)));
  fresh = λ h. subst (λ z. AllDiffer (l.values ++ z)) (sym (labels_by [] true w)) (k.fresh h);
  fit = subst (λ z. Each (λ v. IsValue l.of v) z) (sym (labels_by [] true w)) k.fit;
  once = λ h. n;
}

-- the fault of a label
case_fault : (asked : Asked) (env : Env) (role : Role) (w : List ℕ) (f l : ℕ) (v a : Syntax) →
    SoundNode asked env role (node forms.CaseNode w f l (more v (more a none))) →
    (not (is_some (constant_of v)) || given (constant_of v) (is_repeated env.labels)) ≡ false
unfolding restored
case_fault asked env role w f l v a s = s faults.CaseValue

default_fault : (asked : Asked) (env : Env) (role : Role) (w : List ℕ) (f l : ℕ) (a : Syntax) →
    SoundNode asked env role (node forms.DefaultNode w f l (more a none)) → given env.labels (λ l. l.other) ≡ false
unfolding restored
default_fault asked env role w f l a s = s faults.CaseValue

case_labels : (asked : Asked) (env : Env) (sites : List Place) (v a : Syntax) (w : What) (after : Option Labels)
    (l : Labels) → env.labels ≡ Some l →
    (not (is_some (constant_of v)) || given (constant_of v) (is_repeated env.labels)) ≡ false →
    ((l' : Labels) → (case_env env v).labels ≡ Some l' → Labelled l' w after) →
    Labelled l (labelled_by (label_of env.labels (constant_of v)) false w) after
case_labels asked env sites v a w after l e s k =
    by (constant_of v) (subst (λ z. (not (is_some (constant_of v)) || given (constant_of v) (is_repeated z)) ≡ false)
    e s) (λ l' h. k l' (ap (λ z. with_label z (constant_of v)) e ∙ h))
  where
    by : (o : Option Constant) → (not (is_some o) || given o (is_repeated (Some l))) ≡ false →
        ((l' : Labels) → with_label (Some l) o ≡ Some l' → Labelled l' w after) →
        Labelled l (labelled_by (label_of env.labels o) false w) after
    by None s k = absurd (false≢true (sym s))
    by (Some c) s k =
        subst (λ z. Labelled l (labelled_by (label_of z (Some c)) false w) after) (sym e)
        (case_label l (wrap_of l.of c.value) w after s (IsValue-wrap l.of c.value)
        (k (record l { values = l.values ++ wrap_of l.of c.value ∷ [] }) refl))

default_labels : (env : Env) (w : What) (after : Option Labels) (l : Labels) → env.labels ≡ Some l →
    given env.labels (λ l. l.other) ≡ false → ((l' : Labels) → (default_env env).labels ≡ Some l' →
    Labelled l' w after) → Labelled l (labelled_by [] true w) after
default_labels env w after l e s k =
    default_label l w after (subst (λ z. given z (λ l. l.other) ≡ false) e s)
    (k (record l { other = true }) (ap with_default e))

-- ---- the statements of a switch

abbrev pub all_labels : List Piece → List ℤ
all_labels [] = []
all_labels (p ∷ ps) = labels_in p.what ++ all_labels ps

abbrev pub defaults : List Piece → ℕ
defaults [] = 0
defaults (p ∷ ps) = (if default_in p.what then 1 else 0) + defaults ps

pub record ArmsLabelled (l : Labels) (ps : List Piece) : Type 0 where
  pub fresh : AllDiffer l.values → AllDiffer (l.values ++ all_labels ps)
  pub fit : Each (λ v. IsValue l.of v) (all_labels ps)
  pub once : defaults ps ≤ (if l.other then 0 else 1)

abbrev pub SwitchLabels : Env → List Place → Forest → Type 0
SwitchLabels env sites parts = (front : Bool) (l : Labels) → env.labels ≡ Some l →
    ArmsLabelled l (parts_meant env forms.SwitchNode front sites parts).pieces

abbrev pub BlockLabels : Env → List Place → Forest → Type 0
BlockLabels env sites parts = Unit {0}

no_arms : (l : Labels) → ArmsLabelled l []
no_arms l = record { fresh = λ h. subst AllDiffer (sym (append_nothing l.values)) h; fit = tt; once = omega arith }

once_more : (o d : Bool) (n : ℕ) → (d ≡ true → o ≡ false) → n ≤ (if either o d then 0 else 1) →
    (if d then 1 else 0) + n ≤ (if o then 0 else 1)
once_more true true n h k = absurd (false≢true (sym (h refl)))
once_more true false n h k = omega arith
once_more false true n h k = omega arith
once_more false false n h k = omega arith

arms_more : (l : Labels) (p : Piece) (ps : List Piece) (after : Option Labels) → Labelled l p.what after →
    ((l' : Labels) → after ≡ Some l' → ArmsLabelled l' ps) → ArmsLabelled l (p ∷ ps)
arms_more l p ps after k g =
    let y = g (record {
      of = l.of;
      values = l.values ++ labels_in p.what;
      other = either l.other (default_in p.what);
    }) k.after' in
    record {
      fresh = λ h. subst AllDiffer (append_assoc l.values (labels_in p.what) (all_labels ps)) (y.fresh (k.fresh h));
      fit = each_append (λ v. IsValue l.of v) (labels_in p.what) (all_labels ps) k.fit y.fit;
      once = once_more l.other (default_in p.what) (defaults ps) k.once y.once;
    }

-- behind a statement of a switch its labels stand
on_labels_are : (env : Env) (p : Syntax) (l : Labels) → (behind env p).labels ≡ Some l →
    (on_labels env p).labels ≡ Some l
on_labels_are env p l e = ap (λ z. (behind_value (behind env p) z (kind_of env p)).labels) e ∙ e

no_pieces : (env : Env) (front : Bool) (sites : List Place) →
    (parts_meant env forms.SwitchNode front sites none).pieces ≡ []
unfolding parts_meant
no_pieces env front sites = refl

block_labels : (env : Env) (w : List ℕ) (f l : ℕ) (parts : Forest) →
    (behind env (node forms.BlockNode w f l parts)).labels ≡ env.labels
unfolding behind restored left
block_labels env w f l parts = refl

block_plain : (env : Env) (sites : List Place) (w : List ℕ) (f l : ℕ) (parts : Forest) →
    (labels_in (meant env sites (node forms.BlockNode w f l parts)).piece.what ≡ []) ×
    (default_in (meant env sites (node forms.BlockNode w f l parts)).piece.what ≡ false)
unfolding meant meants.make
block_plain env sites w f l parts = (refl, refl)

what_is : {a b : Built} → a ≡ b → a.what ≡ b.what
what_is e = ap (λ (z : Built). z.what) e

-- a `for` is a block, whichever of its parts are there
for_plain : (env : Env) (sites : List Place) (w : List ℕ) (f l : ℕ) (d e a : Syntax) → IsExpression e →
    StatementLabels env sites (node forms.ForNode w f l (more d (more e (more a none))))
for_plain env sites w f l d e a h l' k =
    plain_label l' (meant env sites t).piece.what (behind env t).labels
    (ap labels_in (what_is (for1_built env sites w f l d e a h)) ∙
    (by (second_is_test (more d (more e (more a none))))).0)
    (ap default_in (what_is (for1_built env sites w f l d e a h)) ∙
    (by (second_is_test (more d (more e (more a none))))).1)
    (ap (λ (z : Env). z.labels) (for1_behind env w f l d e a h) ∙ k)
  where
    t : Syntax
    t = node forms.ForNode w f l (more d (more e (more a none)))

    x : MadeParts
    x = for1_pieces (opened (in_loop env)) sites d e a

    pd : Piece
    pd = (meant (opened (in_loop env)) sites d).piece

    pe : Piece
    pe = (meant (behind (opened (in_loop env)) d) (meant (opened (in_loop env)) sites d).sites e).piece

    pa : Piece
    pa =
        (meant (behind (opened (in_loop env)) d)
        (meant (behind (opened (in_loop env)) d) (meant (opened (in_loop env)) sites d).sites e).sites a).piece

    made_by : Bool → Built
    made_by b = if b then statements.for_made (place_of (visible_at env t) f) x.sites pd (Some (read pe.what)) None pa
        else statements.for_made (place_of (visible_at env t) f) x.sites pd None (Some (read pe.what)) pa

    by : (b : Bool) → (labels_in (made_by b).what ≡ []) × (default_in (made_by b).what ≡ false)
    by true = (refl, refl)
    by false = (refl, refl)

case_made_so : (asked : Asked) (env : Env) (sites : List Place) (role : Role) (w : List ℕ) (f l : ℕ) (v a : Syntax) →
    IsExpression v → SoundNode asked env role (node forms.CaseNode w f l (more v (more a none))) →
    StatementLabels (case_env env v) (meant env sites v).sites a →
    StatementLabels env sites (node forms.CaseNode w f l (more v (more a none)))
case_made_so asked env sites role w f l v a h n k l' e =
    subst (λ z. Labelled l' (meant env sites (node forms.CaseNode w f l (more v (more a none)))).piece.what z)
    (sym (ap (λ (z : Env). z.labels) (case_behind env w f l v a h)))
    (subst (λ z. Labelled l' z (behind (case_env env v) a).labels) (sym (what_is (case_built env sites w f l v a h)))
    (case_labels asked env sites v a (meant (case_env env v) (meant env sites v).sites a).piece.what
    (behind (case_env env v) a).labels l' e (case_fault asked env role w f l v a n) k))

default_made_so : (asked : Asked) (env : Env) (sites : List Place) (role : Role) (w : List ℕ) (f l : ℕ) (a : Syntax) →
    SoundNode asked env role (node forms.DefaultNode w f l (more a none)) →
    StatementLabels (default_env env) sites a → StatementLabels env sites (node forms.DefaultNode w f l (more a none))
default_made_so asked env sites role w f l a n k l' e =
    subst (λ z. Labelled l' (meant env sites (node forms.DefaultNode w f l (more a none))).piece.what z)
    (sym (ap (λ (z : Env). z.labels) (default_behind env w f l a)))
    (subst (λ z. Labelled l' z (behind (default_env env) a).labels) (sym (what_is (default_built env sites w f l a)))
    (default_labels env (meant (default_env env) sites a).piece.what (behind (default_env env) a).labels l' e
    (default_fault asked env role w f l a n) k))

pub labelling : (asked : Asked) → Cases asked StatementLabels BlockLabels SwitchLabels
labelling asked = record {
  block = λ env sites w f l parts k l' e.
      plain_label l' (meant env sites (node forms.BlockNode w f l parts)).piece.what
      (behind env (node forms.BlockNode w f l parts)).labels (block_plain env sites w f l parts).0
      (block_plain env sites w f l parts).1 (block_labels env w f l parts ∙ e);
  idle = λ env sites w f l. unlabelled env (behind env (node forms.SimpleNode w f l none)) _ _
      (what_is (simple0_built env sites w f l)) refl refl
      (ap (λ (z : Env). z.labels) (simple_leaves env w f l none tt));
  simple = λ env sites w f l e h s. unlabelled env (behind env (node forms.SimpleNode w f l (more e none))) _ _
      (what_is (simple_built env sites w f l e)) refl refl
      (ap (λ (z : Env). z.labels) (simple_leaves env w f l (more e none) h));
  if_one = λ env sites w f l c a h s k. unlabelled env (behind env (node forms.IfNode w f l (more c (more a none)))) _
      _ (what_is (if_built env sites w f l c a h)) refl refl (ap (λ (z : Env). z.labels) (if_behind env w f l c a h));
  if_else = λ env sites w f l c a b h s k k'.
      unlabelled env (behind env (node forms.IfNode w f l (more c (more a (more b none))))) _ _
      (what_is (else_built env sites w f l c a b h)) refl refl
      (ap (λ (z : Env). z.labels) (else_behind env w f l c a b h));
  while = λ env sites w f l c a h s k. unlabelled env (behind env (node forms.WhileNode w f l (more c (more a none))))
      _ _ (what_is (while_built env sites w f l c a h)) refl refl
      (ap (λ (z : Env). z.labels) (while_behind env w f l c a h));
  do_while = λ env sites w f l a c h k s. unlabelled env (behind env (node forms.DoNode w f l (more a (more c none))))
      _ _ (what_is (do_built env sites w f l a c)) refl refl (ap (λ (z : Env). z.labels) (do_behind env w f l a c h));
  for_ever = λ env sites w f l d a h s k.
      unlabelled env (behind env (node forms.ForNode w f l (more d (more a none)))) _ _
      (what_is (for_built env sites w f l d a)) refl refl (ap (λ (z : Env). z.labels) (for_behind env w f l d a));
  for_one = λ env sites w f l d e a h s he se k. for_plain env sites w f l d e a he;
  for_both = λ env sites w f l d c e a h s hc sc he se k.
      unlabelled env (behind env (node forms.ForNode w f l (more d (more c (more e (more a none)))))) _ _
      (what_is (for2_built env sites w f l d c e a hc he)) refl refl
      (ap (λ (z : Env). z.labels) (for2_behind env w f l d c e a hc he));
  switch = λ env sites w f l v ss h s k. unlabelled env (behind env (node forms.SwitchNode w f l (more v ss))) _ _
      (what_is (switch_built env sites w f l v ss h)) refl refl
      (ap (λ (z : Env). z.labels) (switch_behind env w f l v ss h));
  case = λ env sites role w f l v a h s n k l' e. case_made_so asked env sites role w f l v a h n k l' e;
  default = λ env sites role w f l a n k l' e. default_made_so asked env sites role w f l a n k l' e;
  break = λ env sites role w f l n. unlabelled env (behind env (node forms.BreakNode w f l none)) _ _
      (what_is (break_built env sites w f l)) refl refl (ap (λ (z : Env). z.labels) (break_leaves env w f l));
  continue = λ env sites role w f l n. unlabelled env (behind env (node forms.ContinueNode w f l none)) _ _
      (what_is (continue_built env sites w f l)) refl refl (ap (λ (z : Env). z.labels) (continue_leaves env w f l));
  return0 = λ env sites role w f l n. unlabelled env (behind env (node forms.ReturnNode w f l none)) _ _
      (what_is (return0_built env sites w f l)) refl refl
      (ap (λ (z : Env). z.labels) (return_leaves env w f l none tt));
  return1 = λ env sites role w f l e h s n. unlabelled env (behind env (node forms.ReturnNode w f l (more e none))) _
      _ (what_is (return_built env sites w f l e)) refl refl
      (ap (λ (z : Env). z.labels) (return_leaves env w f l (more e none) h));
  no_line = λ env sites. tt;
  declared = λ env sites d ps h s q. tt;
  line = λ env sites t ps k q. tt;
  no_statement = λ env sites front l e. subst (ArmsLabelled l) (sym (no_pieces env front sites)) (no_arms l);
  statement = λ env sites t ps k q front l e. subst (λ (z : MadeParts). ArmsLabelled l z.pieces)
      (sym (on_meant env front sites t ps))
      (arms_more l (meant env sites t).piece (parts_meant (on_labels env t) forms.SwitchNode false
      (meant env sites t).sites ps).pieces (behind env t).labels (k l e)
      (λ l' e'. q false l' (on_labels_are env t l' e')));
}
