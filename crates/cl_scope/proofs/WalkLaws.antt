-- Going into a node and out of it.
use Rattle.std.proofs.Common.{ℕ, suc, zero, [], ◌∷◌, map, take, List, Option, Some, None, ◌≡◌, refl, ap, ◌∙◌}
use Rattle.cl_tree.specs.declared.tree.Form.{Form}
use Rattle.cl_tree.specs.declared.tree.Form.TheVariants as forms
use Rattle.cl_tree.specs.declared.tree.Tree.{Tree}
use Rattle.cl_tree.specs.declared.tree.Tree.TheViews.{out-Tree}
use Rattle.cl_tree.specs.Syntax.{Syntax, view}
use Rattle.cl_meaning.specs.Spelling.{name_in}
use Rattle.cl_meaning.proofs.Views.{view_out}
use Rattle.cl_meaning.specs.Environment.{Env, Scope, Labels}
use Rattle.cl_meaning.specs.Visible.{inside, restored}
use Rattle.cl_scope.specs.Walk.{Kept, Body, Aside, nothing, labels, body, body_of, kept, kept_at, entered}
use Rattle.cl_scope.specs.Walk.{inside_named, restored_by, with_aside, aside_at, inner_for, inner_at}

pub map_take : {A B : Type 0} (f : A → B) (n : ℕ) (xs : List A) → map f (take n xs) ≡ take n (map f xs)
map_take f zero xs = refl
map_take f (suc n) [] = refl
map_take f (suc n) (x ∷ xs) = ap (λ ys. f x ∷ ys) (map_take f n xs)

pub inside_is : (env : Env) (form : Form) (w : List ℕ) → inside env form w ≡ inside_named env form (name_in w)
unfolding inside
inside_is env forms.FunctionNode w = refl
inside_is env form w = refl

pub entered_is : (env : Env) (t : Tree) →
    entered env (view t) ≡ inside_named env (out-Tree t).form (name_in (out-Tree t).word)
entered_is env t = ap (λ (s : Syntax). entered env s) (view_out t) ∙ inside_is env (out-Tree t).form (out-Tree t).word

pub kept_is : (t : Tree) (env : Env) → kept_at (view t) env ≡ kept (out-Tree t).form env
kept_is t env = ap (λ (s : Syntax). kept_at s env) (view_out t)

pub restored_is : (form : Form) (before inner : Env) → restored_by (kept form before) inner ≡ restored form before inner
unfolding restored
restored_is forms.FunctionNode before inner = refl
restored_is form before inner = refl

pub restored_parts : (k : Kept) (inner : Env) (scopes : List Scope) → scopes ≡ take k.around.scopes inner.scopes
    → with_aside k.aside (record inner {
      scopes = scopes;
      owner = k.around.owner;
      declared = k.around.declared;
      flags = k.around.flags;
      in_body = k.around.in_body;
      in_loop = k.around.in_loop;
      in_switch = k.around.in_switch;
    }) ≡ restored_by k inner
restored_parts k inner scopes p =
    λ i. with_aside k.aside (record inner {
      scopes = p i;
      owner = k.around.owner;
      declared = k.around.declared;
      flags = k.around.flags;
      in_body = k.around.in_body;
      in_loop = k.around.in_loop;
      in_switch = k.around.in_switch;
    })

pub inner_is : (form : Form) (before inner : Env) → inner_for (aside_at form before) inner inner.owner.sizes ≡
    inner_at form inner
inner_is forms.FunctionNode before inner = refl
inner_is form before inner = refl

pub inner_same : (a : Aside) (e f : Env) (sizes : Option (List ℕ)) → e.labels ≡ f.labels → body_of e ≡ body_of f →
    inner_for a e sizes ≡ inner_for a f sizes
inner_same nothing e f sizes p q = refl
inner_same (labels l) e f sizes p q = ap (λ (x : Option Labels). record { labels = x; body = None; sizes = sizes }) p
inner_same (body b) e f sizes p q = ap (λ (x : Body). record { labels = None; body = Some x; sizes = sizes }) q
