-- What functions and prototypes say of themselves.
use Rattle.std.proofs.Common.{ℕ, [], ◌∷◌, ◌++◌, ◌+◌, ◌<◌, length, map, drop, get_or, List, Some, true, ◌≡◌, refl, sym}
use Rattle.std.proofs.Common.{ap, ◌∙◌}
use Rattle.std.proofs.lemmas.List.{drop_more, append_assoc}
use Rattle.cl_tree.specs.declared.tree.Form.{Form}
use Rattle.cl_tree.specs.declared.tree.Form.TheVariants as forms
use Rattle.cl_tree.specs.declared.tree.Tree.{Tree}
use Rattle.cl_tree.specs.declared.tree.Tree.TheViews.{out-Tree}
use Rattle.cl_tree.specs.Syntax.{Syntax, node, Forest, more, view, views}
use Rattle.cl_meaning.specs.Spelling.{requires_size}
use Rattle.cl_meaning.proofs.Views.{view_out}
use Rattle.cl_meaning.specs.declared.kind.Parameter.{Parameter}
use Rattle.cl_meaning.specs.Environment.{Signature}
use Rattle.cl_meaning.specs.Declarations.{parameter_of, parameters_of, parts_of, form_of, with_part, with_parts}
use Rattle.cl_meaning.specs.Declarations.{definitions_in, listed, size_in, sizes_in}
use Rattle.cl_scope.specs.Signatures.{definition_at}
use Rattle.cl_scope.proofs.Trees.{listed_views}

pub views_more : (ts : List Tree) (i : ℕ) (t : Tree) → i < length ts → t ≡ get_or ts i t →
    views (drop i ts) ≡ more (view t) (views (drop (i + 1) ts))
views_more ts i t h e = ap (λ (x : List Tree). views x) (drop_more ts i t h) ∙
    ap (λ (x : Tree). more (view x) (views (drop (i + 1) ts))) (sym e)

pub parts_view : (t : Tree) → parts_of (view t) ≡ views (out-Tree t).parts.items
parts_view t = ap parts_of (view_out t)

next_one : {A : Type 0} (done next rest new whole : List A) (x : A) → whole ≡ done ++ x ∷ rest →
    new ≡ done ++ x ∷ [] → whole ≡ new ++ rest
next_one done next rest new whole x h e = h ∙ sym (append_assoc done (x ∷ []) rest) ∙ ap (λ ys. ys ++ rest) (sym e)

pub parameters_more : (ts : List Tree) (i : ℕ) (t : Tree) (whole done new : List Parameter) (p : Parameter) →
    i < length ts → t ≡ get_or ts i t
    → whole ≡ done ++ parameters_of (views (drop i ts)) → p ≡ parameter_of (views (out-Tree t).parts.items) →
    new ≡ done ++ p ∷ []
    → whole ≡ new ++ parameters_of (views (drop (i + 1) ts))
parameters_more ts i t whole done new p h e w k n =
    next_one done [] (parameters_of (views (drop (i + 1) ts))) new whole p
    (w ∙ ap (λ f. done ++ parameters_of f) (views_more ts i t h e)
    ∙ ap (λ (q : Parameter). done ++ q ∷ parameters_of (views (drop (i + 1) ts))) (ap parameter_of (parts_view t) ∙
    sym k))
    n

pub parts_more : (ts : List Tree) (i : ℕ) (t : Tree) (whole g g' : Signature) → i < length ts → t ≡ get_or ts i t
    → whole ≡ with_parts g (views (drop i ts)) → g' ≡ with_part g (form_of (view t)) (view t) →
    whole ≡ with_parts g' (views (drop (i + 1) ts))
parts_more ts i t whole g g' h e w k =
    w ∙ ap (λ f. with_parts g f) (views_more ts i t h e) ∙
    ap (λ (x : Signature). with_parts x (views (drop (i + 1) ts))) (sym k)

definition_first : (form : Form) (w : List ℕ) (f l : ℕ) (parts ps : Forest) →
    definitions_in (more (node form w f l parts) ps) ≡ definition_at form (node form w f l parts) ++ definitions_in ps
definition_first forms.FunctionNode w f l parts ps = refl
definition_first form w f l parts ps = refl

definition_next : (t : Syntax) (ps : Forest) → definitions_in (more t ps) ≡ definition_at (form_of t) t ++
    definitions_in ps
definition_next (node form w f l parts) ps = definition_first form w f l parts ps

pub definitions_more : (ts : List Tree) (i : ℕ) (t : Tree) (whole done new : List Signature) → i < length ts →
    t ≡ get_or ts i t
    → whole ≡ done ++ definitions_in (views (drop i ts)) → new ≡ done ++ definition_at (form_of (view t)) (view t)
    → whole ≡ new ++ definitions_in (views (drop (i + 1) ts))
definitions_more ts i t whole done new h e w n =
    w ∙ ap (λ f. done ++ definitions_in f) (views_more ts i t h e)
    ∙ ap (λ ys. done ++ ys) (definition_next (view t) (views (drop (i + 1) ts)))
    ∙ sym (append_assoc done (definition_at (form_of (view t)) (view t)) (definitions_in (views (drop (i + 1) ts))))
    ∙ ap (λ ys. ys ++ definitions_in (views (drop (i + 1) ts))) (sym n)

sizes_node : (form : Form) (w : List ℕ) (f l : ℕ) (ps : Forest) → form ≡ forms.AttributeNode →
    requires_size w ≡ true → sizes_in (node form w f l ps) ≡ Some (map size_in (listed ps))
sizes_node form w f l ps e r = rw (e, r) refl

pub sizes_are : (t : Tree) (ns : List ℕ) → (out-Tree t).form ≡ forms.AttributeNode →
    requires_size (out-Tree t).word ≡ true
    → ns ≡ map size_in (map view (out-Tree t).parts.items) → Some ns ≡ sizes_in (view t)
sizes_are t ns f r e =
    ap (λ (x : List ℕ). Some x) (e ∙
    ap (λ (x : List Syntax). map size_in x) (sym (listed_views (out-Tree t).parts.items)))
    ∙ sym (ap sizes_in (view_out t) ∙
    sizes_node (out-Tree t).form (out-Tree t).word (out-Tree t).first (out-Tree t).last
    (views (out-Tree t).parts.items) f r)
