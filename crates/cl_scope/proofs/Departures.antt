-- From part to part, and out of a node.
use Rattle.std.proofs.Common.{ℕ, List, Bool, true, false, Option, ◌≡◌, refl, sym, ap, ◌∙◌}
use Rattle.std.specs.Prelude.{◌||◌}
use Rattle.cl_tree.specs.declared.tree.Form.{Form}
use Rattle.cl_tree.specs.declared.tree.Form.TheVariants as forms
use Rattle.cl_tree.specs.declared.tree.Tree.{Tree}
use Rattle.cl_tree.specs.declared.tree.Tree.TheViews.{out-Tree}
use Rattle.cl_tree.specs.Syntax.{Syntax, Forest, view, views}
use Rattle.cl_meaning.specs.Spelling.{name_in}
use Rattle.cl_meaning.proofs.Views.{view_out}
use Rattle.cl_meaning.specs.declared.kind.Kind.{Kind}
use Rattle.cl_meaning.specs.Environment.{Env, Owner, Labels, declare}
use Rattle.cl_meaning.specs.Declarations.{Declarator, form_of, declarator_in, last_kind, with_declarator}
use Rattle.cl_meaning.specs.Declarations.{with_parameter, first_type, second_star}
use Rattle.cl_meaning.specs.Visible.{later, left, or_sizes, announced, with_prototype, with_function, defined_meaning}
use Rattle.cl_meaning.specs.Visible.{definition_of}
use Rattle.cl_scope.specs.Walk.{departed, declared_by, parameter_by, labels_at, inner_at}

pub form_view : (t : Tree) → form_of (view t) ≡ (out-Tree t).form
form_view t = ap form_of (view_out t)

pub headed_by : (o : Owner) (k k' : Bool) (s s' : Option (List ℕ)) → k ≡ k' → s ≡ s'
    → record o { kernel = o.kernel || k; sizes = or_sizes o.sizes s } ≡ record o {
      kernel = o.kernel || k';
      sizes = or_sizes o.sizes s';
    }
headed_by o k k' s s' p q = λ i. record o { kernel = o.kernel || p i; sizes = or_sizes o.sizes (q i) }

pub later_elsewhere : (env : Env) (form : Form) (front : Bool) (p : Syntax) (k : Option Kind)
    → (form ≡ forms.FunctionNode → ⊥) → (form ≡ forms.PrototypeNode → ⊥) → (form ≡ forms.DeclareNode → ⊥) →
    (form ≡ forms.SwitchNode → ⊥) → (form ≡ forms.CaseNode → ⊥)
    → env ≡ later env form front p k
unfolding later
later_elsewhere env forms.FunctionNode front p k a b c d e = absurd (a refl)
later_elsewhere env forms.PrototypeNode front p k a b c d e = absurd (b refl)
later_elsewhere env forms.DeclareNode front p k a b c d e = absurd (c refl)
later_elsewhere env forms.SwitchNode front p k a b c d e = absurd (d refl)
later_elsewhere env forms.CaseNode front p k a b c d e = absurd (e refl)
later_elsewhere env form front p k a b c d e = refl

pub prototype_is : (env : Env) (name : List ℕ) → announced env name ≡ true
    → declare env name (record { meaning = defined_meaning (definition_of env name); firm = false }) ≡
    with_prototype env name
prototype_is env name h = rw h refl

pub declared_is : (env : Env) (t : Tree) (ks : List (Option Kind)) (w : List ℕ) (ts : List Tree) (d : Declarator)
    (k : Option Kind)
    → d ≡ declarator_in w (out-Tree t).first (views ts) → w ≡ (out-Tree t).word → ts ≡ (out-Tree t).parts.items →
    k ≡ last_kind ks
    → with_declarator env env.declared d k ≡ declared_by env (view t) ks
declared_is env t ks w ts d k p q r u =
    (λ i. with_declarator env env.declared (p i) (u i))
    ∙ (λ i. with_declarator env env.declared (declarator_in (q i) (out-Tree t).first (views (r i))) (last_kind ks))
    ∙ sym (ap (λ (s : Syntax). declared_by env s ks) (view_out t))

pub parameter_at : (env : Env) (t : Tree) (name : List ℕ) (ts : List Tree) → name ≡ name_in (out-Tree t).word →
    ts ≡ (out-Tree t).parts.items
    → with_parameter env name (out-Tree t).last (first_type (views ts)) (second_star (views ts)) ≡
    parameter_by env (view t)
parameter_at env t name ts p q =
    (λ i. with_parameter env (p i) (out-Tree t).last (first_type (views (q i))) (second_star (views (q i))))
    ∙ sym (ap (λ (s : Syntax). parameter_by env s) (view_out t))

-- a tree of a known form leaves what a node of it does
pub departed_at : (env inner : Env) (t : Tree) (ks : List (Option Kind)) (form : Form) → (out-Tree t).form ≡ form
    → left env inner form (out-Tree t).word (out-Tree t).first (out-Tree t).last (views (out-Tree t).parts.items) ks ≡
    departed env inner (view t) ks
departed_at env inner t ks form e =
    sym (ap (λ (s : Syntax). departed env inner s ks) (view_out t)
    ∙ ap (λ (f : Form). left env inner f (out-Tree t).word (out-Tree t).first (out-Tree t).last
    (views (out-Tree t).parts.items) ks) e)

pub function_left : (env inner : Env) (t : Tree) (ks : List (Option Kind)) (name : List ℕ) →
    (out-Tree t).form ≡ forms.FunctionNode → name ≡ name_in (out-Tree t).word
    → with_function env name ≡ departed env inner (view t) ks
unfolding left
function_left env inner t ks name e n =
    ap (λ (x : List ℕ). with_function env x) n ∙ departed_at env inner t ks forms.FunctionNode e

pub prototype_left : (env inner : Env) (t : Tree) (ks : List (Option Kind)) (name : List ℕ) →
    (out-Tree t).form ≡ forms.PrototypeNode → name ≡ name_in (out-Tree t).word
    → with_prototype env name ≡ departed env inner (view t) ks
unfolding left
prototype_left env inner t ks name e n =
    ap (λ (x : List ℕ). with_prototype env x) n ∙ departed_at env inner t ks forms.PrototypeNode e

pub parameter_left : (env inner : Env) (t : Tree) (ks : List (Option Kind)) → (out-Tree t).form ≡ forms.ParamNode →
    parameter_by env (view t) ≡ departed env inner (view t) ks
unfolding left
parameter_left env inner t ks e =
    ap (λ (s : Syntax). parameter_by env s) (view_out t) ∙ departed_at env inner t ks forms.ParamNode e

pub declarator_left : (env inner : Env) (t : Tree) (ks : List (Option Kind)) →
    (out-Tree t).form ≡ forms.DeclaratorNode → declared_by env (view t) ks ≡ departed env inner (view t) ks
unfolding left
declarator_left env inner t ks e =
    ap (λ (s : Syntax). declared_by env s ks) (view_out t) ∙ departed_at env inner t ks forms.DeclaratorNode e

pub case_left : (env inner : Env) (t : Tree) (ks : List (Option Kind)) (ls : Option Labels) →
    (out-Tree t).form ≡ forms.CaseNode → ls ≡ labels_at (view t) inner
    → record env { labels = ls } ≡ departed env inner (view t) ks
unfolding left
case_left env inner t ks ls e l =
    ap (λ (x : Option Labels). record env { labels = x }) (l ∙
    ap (λ (f : Form). (inner_at f inner).labels) (form_view t ∙ e))
    ∙ departed_at env inner t ks forms.CaseNode e

pub default_left : (env inner : Env) (t : Tree) (ks : List (Option Kind)) (ls : Option Labels) →
    (out-Tree t).form ≡ forms.DefaultNode → ls ≡ labels_at (view t) inner
    → record env { labels = ls } ≡ departed env inner (view t) ks
unfolding left
default_left env inner t ks ls e l =
    ap (λ (x : Option Labels). record env { labels = x }) (l ∙
    ap (λ (f : Form). (inner_at f inner).labels) (form_view t ∙ e))
    ∙ departed_at env inner t ks forms.DefaultNode e

left_elsewhere : (env inner : Env) (form : Form) (w : List ℕ) (f l : ℕ) (ps : Forest) (ks : List (Option Kind))
    → (form ≡ forms.FunctionNode → ⊥) → (form ≡ forms.PrototypeNode → ⊥) → (form ≡ forms.ParamNode → ⊥) →
    (form ≡ forms.DeclaratorNode → ⊥) → (form ≡ forms.CaseNode → ⊥) → (form ≡ forms.DefaultNode → ⊥)
    → env ≡ left env inner form w f l ps ks
unfolding left
left_elsewhere env inner forms.FunctionNode w f l ps ks a b c d e g = absurd (a refl)
left_elsewhere env inner forms.PrototypeNode w f l ps ks a b c d e g = absurd (b refl)
left_elsewhere env inner forms.ParamNode w f l ps ks a b c d e g = absurd (c refl)
left_elsewhere env inner forms.DeclaratorNode w f l ps ks a b c d e g = absurd (d refl)
left_elsewhere env inner forms.CaseNode w f l ps ks a b c d e g = absurd (e refl)
left_elsewhere env inner forms.DefaultNode w f l ps ks a b c d e g = absurd (g refl)
left_elsewhere env inner form w f l ps ks a b c d e g = refl

pub others_left : (env inner : Env) (t : Tree) (ks : List (Option Kind))
    → ((out-Tree t).form ≡ forms.FunctionNode → ⊥) → ((out-Tree t).form ≡ forms.PrototypeNode → ⊥) →
    ((out-Tree t).form ≡ forms.ParamNode → ⊥)
    → ((out-Tree t).form ≡ forms.DeclaratorNode → ⊥) → ((out-Tree t).form ≡ forms.CaseNode → ⊥) →
    ((out-Tree t).form ≡ forms.DefaultNode → ⊥)
    → env ≡ departed env inner (view t) ks
others_left env inner t ks a b c d e g =
    left_elsewhere env inner (out-Tree t).form (out-Tree t).word (out-Tree t).first (out-Tree t).last
    (views (out-Tree t).parts.items) ks a b c d e g
    ∙ departed_at env inner t ks (out-Tree t).form refl
