-- What a node stands for, by its production.
use Rattle.std.proofs.Common.{◌≡◌, ℕ, List, true, Option, Some, option_map, Result, Ok, Err, IfOk, sym, ap, ◌∙◌}
use Rattle.wg_num.specs.declared.types.Place.{Place}
use Rattle.cl_tree.specs.declared.tree.Form.{Form}
use Rattle.cl_tree.specs.declared.tree.Form.TheVariants as forms
use Rattle.cl_tree.specs.declared.tree.Tree.{Tree}
use Rattle.cl_tree.specs.declared.tree.Tree.TheViews.{out-Tree}
use Rattle.cl_tree.specs.Syntax.{Syntax, view, views, first_of}
use Rattle.cl_meaning.proofs.Views.{view_out}
use Rattle.cl_meaning.specs.Environment.{Env, place_of}
use Rattle.cl_meaning.specs.Declarations.{Declarator, form_of, declarator_in, signature_in}
use Rattle.cl_meaning.specs.Typed.{Piece}
use Rattle.cl_meaning.specs.Statements.{declarator_made, case_made, function_made}
use Rattle.cl_meaning.specs.Meant.{make}
use Rattle.cl_scope.specs.declared.environment.Environment as rust_environment
use Rattle.cl_scope.specs.declared.walk.Body as rust_body
use Rattle.cl_scope.specs.View.{env_of, visible_in}
use Rattle.cl_scope.specs.Walk.{inner_at, body_view, body_of}
use Rattle.cl_fragment.specs.declared.fragment.What as rust
use Rattle.cl_fragment.specs.declared.make.Node as rust_node
use Rattle.cl_fragment.specs.Making.{make_at, made_at, form_at, first_place, is_line, is_jump}
use Rattle.cl_fragment.specs.View.{built_of}

make_is : (env inner : Env) (t : Tree) (form : Form) (sites : List Place) (ps : List Piece) → (out-Tree t).form ≡ form
    → make_at env inner (view t) sites ps ≡ make env inner form (out-Tree t).word (out-Tree t).first
    (views (out-Tree t).parts.items) sites ps
make_is env inner t form sites ps h =
    ap (λ (s : Syntax). make_at env inner s sites ps) (view_out t)
    ∙ ap (λ (f : Form). make env inner f (out-Tree t).word (out-Tree t).first (views (out-Tree t).parts.items) sites
    ps) h

pub case_row : {E : Type 0} (r : Result rust.What E) (n : rust_node.Node) (sites : List Place) (ps : List Piece)
    (ts : List Tree)
    → (out-Tree n.tree.now).form ≡ forms.CaseNode → ts ≡ (out-Tree n.tree.now).parts.items
    → IfOk r (λ w. (ss : List Place) → case_made (visible_in n.environment.now) ss (views ts) ps ≡ built_of w ss)
    → IfOk r (λ w. (inner : Env) → is_jump (form_at n) ≡ true → made_at n inner sites ps ≡ built_of w sites)
unfolding make
case_row (Ok w) n sites ps ts h p e = λ inner g.
    make_is (env_of n.places.now n.environment.now) inner n.tree.now forms.CaseNode sites ps h
    ∙ (ap (λ (us : List Tree). case_made (visible_in n.environment.now) sites (views us) ps) (sym p) ∙ e sites)
case_row (Err x) n sites ps ts h p e = tt

pub declarator_row : {E : Type 0} (r : Result rust.What E) (n : rust_node.Node) (sites sites' : List Place)
    (ps : List Piece) (place : Place) (w : List ℕ) (ts : List Tree) (d : Declarator)
    → (out-Tree n.tree.now).form ≡ forms.DeclaratorNode → place ≡ first_place n →
    d ≡ declarator_in w (out-Tree n.tree.now).first (views ts)
    → w ≡ (out-Tree n.tree.now).word → ts ≡ (out-Tree n.tree.now).parts.items
    → IfOk r (λ v. declarator_made (visible_in n.environment.now) place sites (visible_in n.environment.now).declared
    d ps ≡ built_of v sites')
    → IfOk r (λ v. (inner : Env) → is_line (form_at n) ≡ true → made_at n inner sites ps ≡ built_of v sites')
unfolding make
declarator_row (Ok v) n sites sites' ps place w ts d h q x p u e = λ inner g.
    let env : Env = env_of n.places.now n.environment.now in
    let at : place ≡ place_of env (out-Tree n.tree.now).first =
    q ∙ ap (λ (s : Syntax). place_of env (first_of s)) (view_out n.tree.now) in
    let it : d ≡ declarator_in (out-Tree n.tree.now).word (out-Tree n.tree.now).first
    (views (out-Tree n.tree.now).parts.items) =
    x ∙ (λ i. declarator_in (p i) (out-Tree n.tree.now).first (views (u i))) in
    make_is env inner n.tree.now forms.DeclaratorNode sites ps h
    ∙ (sym (λ i. declarator_made env (at i) sites env.declared (it i) ps) ∙ e)
declarator_row (Err x) n sites sites' ps place w ts d h q y p u e = tt

pub function_row : {E : Type 0} (r : Result rust.What E) (places : List Place) (e : rust_environment.Environment)
    (t : Tree) (body : Option rust_body.Body) (sizes : Option (List ℕ)) (sites : List Place) (ps : List Piece)
    (w : List ℕ) (ts : List Tree)
    → (out-Tree t).form ≡ forms.FunctionNode → w ≡ (out-Tree t).word → ts ≡ (out-Tree t).parts.items
    → IfOk r (λ v. (inner : Env) (ss : List Place) → option_map body_view body ≡ Some (body_of inner) →
    sizes ≡ inner.owner.sizes → function_made inner ss (signature_in w (views ts)) ps ≡ built_of v ss)
    → IfOk r (λ v. (inner : Env) → option_map body_view body ≡ (inner_at (form_of (view t)) inner).body →
    sizes ≡ (inner_at (form_of (view t)) inner).sizes → make_at (env_of places e) inner (view t) sites ps ≡
    built_of v sites)
unfolding make
function_row (Ok v) places e t body sizes sites ps w ts h p u g = λ inner b s.
    let f : form_of (view t) ≡ forms.FunctionNode = ap form_of (view_out t) ∙ h in
    make_is (env_of places e) inner t forms.FunctionNode sites ps h
    ∙ (sym (λ i. function_made inner sites (signature_in (p i) (views (u i))) ps)
    ∙ g inner sites (b ∙ ap (λ (x : Form). (inner_at x inner).body) f) (s ∙
    ap (λ (x : Form). (inner_at x inner).sizes) f))
function_row (Err x) places e t body sizes sites ps w ts h p u g = tt
