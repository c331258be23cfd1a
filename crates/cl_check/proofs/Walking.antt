-- A walk through the parts of a node, and then the node.
use Rattle.std.proofs.Common.{◌≡◌, ℕ, List, [], ◌∷◌, ◌++◌, Option, None, Some, true, false, refl, ap, sym, ◌∙◌, subst}
use Rattle.std.proofs.Common.{inl, inr}
use Rattle.std.proofs.lemmas.List.{append-nil, append_assoc}
use Rattle.wg_num.specs.declared.types.Place.{Place}
use Rattle.cl_tree.specs.declared.tree.Form.{Form}
use Rattle.cl_tree.specs.Syntax.{Syntax, node, Forest, none, more, first_of, last_of}
use Rattle.cl_meaning.specs.declared.fault.Fault.{Fault}
use Rattle.cl_meaning.specs.declared.kind.Kind.{Kind}
use Rattle.cl_meaning.specs.declared.kind.Role.{Role}
use Rattle.cl_meaning.specs.Environment.{Env}
use Rattle.cl_meaning.specs.Visible.{Node, Before, is_front, role_of, inside, later, restored, left, behind}
use Rattle.cl_meaning.specs.Visible.{behind_parts, kind_of, kinds_of, in_order, parts_in_order}
use Rattle.cl_meaning.specs.Faults.{Asked, Sound, Stands, Looked, looked}
use Rattle.cl_meaning.specs.Kinds.{kind_step}
use Rattle.cl_meaning.specs.Typed.{Piece, Made}
use Rattle.cl_meaning.specs.Meant.{MadeParts, meant, parts_meant, make, make_from, piece_made}
use Rattle.cl_meaning.specs.Declarations.{form_of, parts_of}
use Rattle.cl_meaning.specs.Faults.{at_fault}
use Rattle.cl_scope.specs.Walk.{entered}
use Rattle.cl_faults.specs.View.{looked_in}
use Rattle.cl_check.specs.Walk.{Passes, Walked, Faulted, kinds_in, Progress, PartsWalked, PartsFaulted, IsJudged}
use Rattle.cl_check.specs.Walk.{IsAtFault}

pub passes_all : (asked : Asked) (end : ℕ) (a b c : List Node) → Passes asked end a b → Passes asked end b c →
    Passes asked end a c
passes_all asked end a b c p q =
    record { sound = λ h. p.sound (q.sound h); first = λ k t h. p.first k t (q.first k t h) }

pub passes_none : (asked : Asked) (end : ℕ) (a : List Node) → Passes asked end a a
passes_none asked end a = record { sound = λ h. h; first = λ k t h. h }

-- a piece has the kind of its tree
pub kind_meant : (env : Env) (sites : List Place) (t : Syntax) → (meant env sites t).piece.kind ≡ kind_of env t
unfolding kind_of meant
kind_meant env sites (node form w f l parts) = refl

-- no part is done
pub begun : (asked : Asked) (end : ℕ) (form : Form) (env : Env) (sites : List Place) (parts : Forest) →
    Progress asked end form env sites parts env sites None [] parts
begun asked end form env sites parts = record {
  environment = refl;
  kinds' = refl;
  made = refl;
  passes = λ rest. passes_none asked end (parts_in_order env form None parts rest);
}

-- one part more, and then others
abbrev pub snoc : {A : Type 0} (xs : List A) (x : A) (ys : List A) → xs ++ x ∷ ys ≡ (xs ++ x ∷ []) ++ ys
snoc xs x ys = sym (append_assoc xs (x ∷ []) ys)

kinds_snoc : (ps : List Piece) (p : Piece) (ks : List (Option Kind)) →
    kinds_in ps ++ p.kind ∷ ks ≡ kinds_in (ps ++ p ∷ []) ++ ks
kinds_snoc [] p ks = refl
kinds_snoc (q ∷ qs) p ks = ap (λ z. q.kind ∷ z) (kinds_snoc qs p ks)

-- the next part is done
step_plain : (asked : Asked) (end : ℕ) (form : Form) (env0 : Env) (sites0 : List Place) (parts0 : Forest) (env : Env)
    (sites : List Place) (b : Before) (done : List Piece) (p : Syntax) (ps : Forest) →
    Progress asked end form env0 sites0 parts0 env sites b done (more p ps) →
    ((rest : List Node) → Passes asked end (in_order env (role_of form b p) p rest) rest) →
    Progress asked end form env0 sites0 parts0 (later (behind env p) form (is_front b) p (kind_of env p))
    (meant env sites p).sites (Some (last_of p)) (done ++ (meant env sites p).piece ∷ []) ps
unfolding behind_parts parts_meant parts_in_order
step_plain asked end form env0 sites0 parts0 env sites b done p ps h w = record {
  environment = h.environment;
  kinds' = h.kinds' ∙ (ap (λ z. kinds_in done ++ z ∷ kinds_of next form false ps) (sym (kind_meant env sites p)) ∙
      kinds_snoc done piece (kinds_of next form false ps));
  made = h.made ∙ ap (λ z. record { pieces = z; sites = others.sites }) (snoc done piece others.pieces);
  passes = λ rest. passes_all asked end (parts_in_order env0 form None parts0 rest)
      (parts_in_order env form b (more p ps) rest) (parts_in_order next form (Some (last_of p)) ps rest)
      (h.passes rest) (w (parts_in_order next form (Some (last_of p)) ps rest));
}
  where
    next : Env
    next = later (behind env p) form (is_front b) p (kind_of env p)

    piece : Piece
    piece = (meant env sites p).piece

    others : MadeParts
    others = parts_meant next form false (meant env sites p).sites ps

pub step : (asked : Asked) (end : ℕ) (form : Form) (env0 : Env) (sites0 : List Place) (parts0 : Forest) (env : Env)
    (sites : List Place) (b : Before) (done : List Piece) (p : Syntax) (ps : Forest) (env' : Env)
    (sites' : List Place) (piece : Piece) →
    Progress asked end form env0 sites0 parts0 env sites b done (more p ps) →
    Walked asked end env sites (role_of form b p) p env' sites' piece →
    Progress asked end form env0 sites0 parts0 (later env' form (is_front b) p piece.kind) sites' (Some (last_of p))
    (done ++ piece ∷ []) ps
step asked end form env0 sites0 parts0 env sites b done p ps env' sites' piece h w =
    subst (λ (m : Made). Progress asked end form env0 sites0 parts0 (later env' form (is_front b) p m.piece.kind)
    m.sites (Some (last_of p)) (done ++ m.piece ∷ []) ps) (sym w.made)
    (subst (λ e. Progress asked end form env0 sites0 parts0
    (later e form (is_front b) p (meant env sites p).piece.kind) (meant env sites p).sites (Some (last_of p))
    (done ++ (meant env sites p).piece ∷ []) ps) (sym w.environment)
    (subst (λ k. Progress asked end form env0 sites0 parts0 (later (behind env p) form (is_front b) p k)
    (meant env sites p).sites (Some (last_of p)) (done ++ (meant env sites p).piece ∷ []) ps)
    (sym (kind_meant env sites p))
    (step_plain asked end form env0 sites0 parts0 env sites b done p ps h w.passes)))

-- the next part has the first node at fault
pub stop : (asked : Asked) (end : ℕ) (env : Env) (sites : List Place) (role : Role) (form : Form) (w : List ℕ)
    (f l : ℕ) (parts : Forest) (env1 : Env) (sites1 : List Place) (b : Before) (done : List Piece) (p : Syntax)
    (ps : Forest) (k : Fault) (token : ℕ) →
    Progress asked end form (inside env form w) sites parts env1 sites1 b done (more p ps) →
    Faulted asked end env1 (role_of form b p) p k token →
    Faulted asked end env role (node form w f l parts) k token
unfolding parts_in_order in_order
stop asked end env sites role form w f l parts env1 sites1 b done p ps k token h x =
    λ rest. (h.passes (record { visible = env; role = role; tree = node form w f l parts } ∷ rest)).first k token
    (x (parts_in_order (later (behind env1 p) form (is_front b) p (kind_of env1 p)) form (Some (last_of p)) ps
    (record { visible = env; role = role; tree = node form w f l parts } ∷ rest)))

-- all parts are done
pub inner_is : (asked : Asked) (end : ℕ) (form : Form) (env0 : Env) (sites0 : List Place) (parts0 : Forest)
    (env : Env) (sites : List Place) (b : Before) (done : List Piece) →
    Progress asked end form env0 sites0 parts0 env sites b done none → behind_parts env0 form true parts0 ≡ env
unfolding behind_parts
inner_is asked end form env0 sites0 parts0 env sites b done h = h.environment

pub kinds_are : (asked : Asked) (end : ℕ) (form : Form) (env0 : Env) (sites0 : List Place) (parts0 : Forest)
    (env : Env) (sites : List Place) (b : Before) (done : List Piece) →
    Progress asked end form env0 sites0 parts0 env sites b done none → kinds_of env0 form true parts0 ≡ kinds_in done
unfolding kinds_of
kinds_are asked end form env0 sites0 parts0 env sites b done h = h.kinds' ∙ append-nil (kinds_in done)

pub pieces_are : (asked : Asked) (end : ℕ) (form : Form) (env0 : Env) (sites0 : List Place) (parts0 : Forest)
    (env : Env) (sites : List Place) (b : Before) (done : List Piece) →
    Progress asked end form env0 sites0 parts0 env sites b done none →
    parts_meant env0 form true sites0 parts0 ≡ record { pieces = done; sites = sites }
unfolding parts_meant
pieces_are asked end form env0 sites0 parts0 env sites b done h =
    h.made ∙ ap (λ z. record { pieces = z; sites = sites }) (append-nil done)

-- the node behind its parts is at fault
pub node_faulted : (asked : Asked) (end : ℕ) (env : Env) (sites : List Place) (role : Role) (form : Form) (w : List ℕ)
    (f l : ℕ) (parts : Forest) (env1 : Env) (sites1 : List Place) (b : Before) (done : List Piece) (k : Fault)
    (token : ℕ) →
    Progress asked end form (inside env form w) sites parts env1 sites1 b done none →
    Stands asked end (record { visible = env; role = role; tree = node form w f l parts }) k token →
    Faulted asked end env role (node form w f l parts) k token
unfolding in_order
node_faulted asked end env sites role form w f l parts env1 sites1 b done k token h x =
    λ rest. (h.passes (record { visible = env; role = role; tree = node form w f l parts } ∷ rest)).first k token
    (inl x)

-- it is sound, and no node of the tree is at fault
pub node_passes : (asked : Asked) (end : ℕ) (env : Env) (sites : List Place) (role : Role) (form : Form) (w : List ℕ)
    (f l : ℕ) (parts : Forest) (env1 : Env) (sites1 : List Place) (b : Before) (done : List Piece) →
    Progress asked end form (inside env form w) sites parts env1 sites1 b done none →
    Sound asked (record { visible = env; role = role; tree = node form w f l parts }) →
    (rest : List Node) → Passes asked end (in_order env role (node form w f l parts) rest) rest
unfolding in_order
node_passes asked end env sites role form w f l parts env1 sites1 b done h x rest = record {
  sound = λ s. (h.passes (n ∷ rest)).sound (x, s);
  first = λ k t s. (h.passes (n ∷ rest)).first k t (inr (x, s));
}
  where
    n : Node
    n = record { visible = env; role = role; tree = node form w f l parts }

-- what is looked at when the parts are done
abbrev pub looked_behind : Env → Role → Form → List ℕ → ℕ → Forest → Env → List Piece → Looked
looked_behind env role form w f parts env1 done = record {
  env = restored form env env1;
  role = role;
  form = form;
  word = w;
  first = f;
  parts = parts;
  kinds' = kinds_in done;
}

pub looked_is : (asked : Asked) (end : ℕ) (env : Env) (sites : List Place) (role : Role) (form : Form) (w : List ℕ)
    (f l : ℕ) (parts : Forest) (env1 : Env) (sites1 : List Place) (b : Before) (done : List Piece) →
    Progress asked end form (inside env form w) sites parts env1 sites1 b done none →
    looked (record { visible = env; role = role; tree = node form w f l parts }) ≡
    looked_behind env role form w f parts env1 done
looked_is asked end env sites role form w f l parts env1 sites1 b done h =
    ap (λ e. record {
      env = restored form env e;
      role = role;
      form = form;
      word = w;
      first = f;
      parts = parts;
      kinds' = kinds_of (inside env form w) form true parts;
    })
    (inner_is asked end form (inside env form w) sites parts env1 sites1 b done h)
    ∙ ap (λ ks. record {
      env = restored form env env1;
      role = role;
      form = form;
      word = w;
      first = f;
      parts = parts;
      kinds' = ks;
    }) (kinds_are asked end form (inside env form w) sites parts env1 sites1 b done h)

-- what a node stands for, from its parts
abbrev pub made_behind : Env → Form → List ℕ → ℕ → Forest → Env → List Place → List Piece → Made
made_behind env form w f parts env1 sites1 done =
    piece_made (kind_step (restored form env env1) form w parts (kinds_in done))
    (make (restored form env env1) env1 form w f parts sites1 done)

meant_is : (asked : Asked) (end : ℕ) (env : Env) (sites : List Place) (form : Form) (w : List ℕ) (f l : ℕ)
    (parts : Forest) (env1 : Env) (sites1 : List Place) (b : Before) (done : List Piece) →
    Progress asked end form (inside env form w) sites parts env1 sites1 b done none →
    meant env sites (node form w f l parts) ≡ made_behind env form w f parts env1 sites1 done
unfolding meant kind_of
meant_is asked end env sites form w f l parts env1 sites1 b done h =
    ap (λ e. piece_made (kind_step (restored form env e) form w parts (kinds_of (inside env form w) form true parts))
    (make_from (restored form env e) e form w f parts (parts_meant (inside env form w) form true sites parts)))
    (inner_is asked end form (inside env form w) sites parts env1 sites1 b done h)
    ∙
    (ap (λ ks. piece_made (kind_step (restored form env env1) form w parts ks)
    (make_from (restored form env env1) env1 form w f parts (parts_meant (inside env form w) form true sites
    parts))) (kinds_are asked end form (inside env form w) sites parts env1 sites1 b done h)
    ∙ ap (λ m. piece_made (kind_step (restored form env env1) form w parts (kinds_in done))
    (make_from (restored form env env1) env1 form w f parts m)) (pieces_are asked end form (inside env form w)
    sites parts env1 sites1 b done h))

behind_is : (asked : Asked) (end : ℕ) (env : Env) (sites : List Place) (form : Form) (w : List ℕ) (f l : ℕ)
    (parts : Forest) (env1 : Env) (sites1 : List Place) (b : Before) (done : List Piece) →
    Progress asked end form (inside env form w) sites parts env1 sites1 b done none →
    behind env (node form w f l parts) ≡ left (restored form env env1) env1 form w f l parts (kinds_in done)
unfolding behind
behind_is asked end env sites form w f l parts env1 sites1 b done h =
    ap (λ e. left (restored form env e) e form w f l parts (kinds_of (inside env form w) form true parts))
    (inner_is asked end form (inside env form w) sites parts env1 sites1 b done h)
    ∙ ap (λ ks. left (restored form env env1) env1 form w f l parts ks)
    (kinds_are asked end form (inside env form w) sites parts env1 sites1 b done h)

-- the node is sound: its tree is walked
pub walked : (asked : Asked) (end : ℕ) (env : Env) (sites : List Place) (role : Role) (form : Form) (w : List ℕ)
    (f l : ℕ) (parts : Forest) (env1 : Env) (sites1 : List Place) (b : Before) (done : List Piece) (env' : Env)
    (made : Made) →
    Progress asked end form (inside env form w) sites parts env1 sites1 b done none →
    Sound asked (record { visible = env; role = role; tree = node form w f l parts }) →
    env' ≡ left (restored form env env1) env1 form w f l parts (kinds_in done) →
    made ≡ made_behind env form w f parts env1 sites1 done →
    Walked asked end env sites role (node form w f l parts) env' made.sites made.piece
walked asked end env sites role form w f l parts env1 sites1 b done env' made h s e m = record {
  environment = e ∙ sym (behind_is asked end env sites form w f l parts env1 sites1 b done h);
  made = m ∙ sym (meant_is asked end env sites form w f l parts env1 sites1 b done h);
  passes = node_passes asked end env sites role form w f l parts env1 sites1 b done h s;
}

-- ---- in the words of the code's steps

-- the next part has the first node at fault of all parts
pub parts_stop : (asked : Asked) (end : ℕ) (form : Form) (env0 : Env) (sites0 : List Place) (parts0 : Forest)
    (env1 : Env) (sites1 : List Place) (b : Before) (done : List Piece) (p : Syntax) (ps : Forest) (k : Fault)
    (token : ℕ) →
    Progress asked end form env0 sites0 parts0 env1 sites1 b done (more p ps) →
    Faulted asked end env1 (role_of form b p) p k token → PartsFaulted asked end form env0 parts0 k token
unfolding parts_in_order in_order
parts_stop asked end form env0 sites0 parts0 env1 sites1 b done p ps k token h x =
    λ rest. (h.passes rest).first k token
    (x (parts_in_order (later (behind env1 p) form (is_front b) p (kind_of env1 p)) form (Some (last_of p)) ps
    rest))

-- a fault in the parts of a tree is one of the tree
pub parts_of_tree : (asked : Asked) (end : ℕ) (env : Env) (role : Role) (t : Syntax) (k : Fault) (token : ℕ) →
    PartsFaulted asked end (form_of t) (entered env t) (parts_of t) k token → Faulted asked end env role t k token
unfolding in_order
parts_of_tree asked end env role (node form w f l parts) k token h =
    λ rest. h (record { visible = env; role = role; tree = node form w f l parts } ∷ rest)

tree_walked_plain : (asked : Asked) (end : ℕ) (env : Env) (sites : List Place) (role : Role) (t : Syntax) (env1 : Env)
    (sites1 : List Place) (b : Before) (done : List Piece) (env' : Env) (sites' : List Place) (p : Piece) →
    Progress asked end (form_of t) (entered env t) sites (parts_of t) env1 sites1 b done none →
    IsJudged asked (restored (form_of t) env env1) env1 sites1 role t done (kinds_in done) env' sites' p →
    Walked asked end env sites role t env' sites' p
tree_walked_plain asked end env sites role (node form w f l parts) env1 sites1 b done env' sites' p h x =
    walked asked end env sites role form w f l parts env1 sites1 b done env' (record { piece = p; sites = sites' }) h
    (λ k. ap (λ z. at_fault asked z k) (looked_is asked end env sites role form w f l parts env1 sites1 b done h) ∙
    x.sound k)
    x.built.environment
    (ap (λ k. piece_made k (record { what = p.what; sites = sites' })) x.built.kind' ∙
    ap (λ m. piece_made (kind_step (restored form env env1) form w parts (kinds_in done)) m) (sym x.built.what))

-- a tree whose parts are walked through, and which is judged without a fault, is walked through
pub tree_walked : (asked : Asked) (end : ℕ) (env : Env) (sites : List Place) (role : Role) (t : Syntax) (env1 : Env)
    (sites1 : List Place) (b : Before) (done : List Piece) (ks : List (Option Kind)) (env' : Env)
    (sites' : List Place) (p : Piece) →
    PartsWalked asked end (form_of t) (entered env t) sites (parts_of t) env1 sites1 b done ks →
    IsJudged asked (restored (form_of t) env env1) env1 sites1 role t done ks env' sites' p →
    Walked asked end env sites role t env' sites' p
tree_walked asked end env sites role t env1 sites1 b done ks env' sites' p h x =
    tree_walked_plain asked end env sites role t env1 sites1 b done env' sites' p h.progress
    (subst (λ z. IsJudged asked (restored (form_of t) env env1) env1 sites1 role t done z env' sites' p) h.kinds' x)

tree_faulted_plain : (asked : Asked) (end : ℕ) (env : Env) (sites : List Place) (role : Role) (t : Syntax)
    (env1 : Env) (sites1 : List Place) (b : Before) (done : List Piece) (k : Fault) (token : ℕ) →
    Progress asked end (form_of t) (entered env t) sites (parts_of t) env1 sites1 b done none →
    IsAtFault asked end (looked_in (restored (form_of t) env env1) role t (kinds_in done)) (first_of t) k token →
    Faulted asked end env role t k token
tree_faulted_plain asked end env sites role (node form w f l parts) env1 sites1 b done k token h x =
    let e = looked_is asked end env sites role form w f l parts env1 sites1 b done h in
    node_faulted asked end env sites role form w f l parts env1 sites1 b done k token h
    (record {
      at = ap (λ z. at_fault asked z k) e ∙ x.least.at;
      least = λ j g. ap (λ z. at_fault asked z j) e ∙ x.least.least j g;
      place = x.place;
    })

-- one that is judged to be at fault has its own fault first
pub tree_faulted : (asked : Asked) (end : ℕ) (env : Env) (sites : List Place) (role : Role) (t : Syntax) (env1 : Env)
    (sites1 : List Place) (b : Before) (done : List Piece) (ks : List (Option Kind)) (k : Fault) (token : ℕ) →
    PartsWalked asked end (form_of t) (entered env t) sites (parts_of t) env1 sites1 b done ks →
    IsAtFault asked end (looked_in (restored (form_of t) env env1) role t ks) (first_of t) k token →
    Faulted asked end env role t k token
tree_faulted asked end env sites role t env1 sites1 b done ks k token h x =
    tree_faulted_plain asked end env sites role t env1 sites1 b done k token h.progress
    (subst (λ z. IsAtFault asked end (looked_in (restored (form_of t) env env1) role t z) (first_of t) k token)
    h.kinds' x)
