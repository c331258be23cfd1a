-- The theorem on expressions: where no node is at fault, an expression has a kind, and what it stands for fits the
-- kind.
use Rattle.std.proofs.Common.{◌≡◌, ℕ, suc, List, [], ◌∷◌, length, Option, None, Some, Bool, true, false, not, ◌&&◌}
use Rattle.std.proofs.Common.{refl, ap, sym, ◌∙◌, subst, if◌then◌else◌}
use Rattle.std.proofs.lemmas.Bool.{false≢true}
use Rattle.wg_num.specs.declared.types.Place.{Place}
use Rattle.cl_model.specs.Tree.{Function, Program}
use Rattle.cl_tree.specs.declared.tree.Form.{Form}
use Rattle.cl_tree.specs.declared.tree.Form.TheVariants as forms
use Rattle.cl_tree.specs.Syntax.{Syntax, node, Forest, none, more}
use Rattle.cl_meaning.specs.Spelling.{name_in, declared_in, binary_in, setting_in, prefix_in, postfix_in, literal_in}
use Rattle.cl_meaning.specs.Spelling.{truth_in}
use Rattle.cl_meaning.proofs.Values.{constant_fits}
use Rattle.cl_meaning.specs.declared.fault.Fault.{Fault}
use Rattle.cl_meaning.specs.declared.fault.Fault.TheVariants as faults
use Rattle.cl_meaning.specs.declared.kind.Kind.{Kind}
use Rattle.cl_meaning.specs.declared.kind.Role.{Role}
use Rattle.cl_meaning.specs.declared.kind.Role.TheVariants as roles
use Rattle.cl_meaning.specs.Environment.{Env, place_of}
use Rattle.cl_meaning.specs.Kinds.{is_some, on_both, all_known, Callee, undefined, callee_of, call_kind, arity_fits}
use Rattle.cl_meaning.specs.Kinds.{call_fits, call_result, name_kind, kind_step}
use Rattle.cl_meaning.specs.Visible.{inside, in_arguments}
use Rattle.cl_meaning.specs.Faults.{Asked, at_fault, misfits, given, is_called}
use Rattle.cl_meaning.specs.Typed.{Piece}
use Rattle.cl_meaning.specs.Expressions.{call_made}
use Rattle.cl_meaning.specs.Meant.{meant, make}
use Rattle.cl_check_sound.specs.Shape.{is_expression, AreOperands, IsExpression, AreExpressions}
use Rattle.cl_check_sound.specs.Fits.{Fits, PieceFits}
use Rattle.cl_check_sound.proofs.Calls.{AllFit, called_fits, callee_fits, call_known}
use Rattle.cl_check_sound.proofs.Shapes.{of_expressions}
use Rattle.cl_check_sound.specs.Sound.{SoundTree}
use Rattle.cl_check_sound.proofs.Plain.{SoundHere, parts_here, sound_plain, visible_same}
use Rattle.cl_check_sound.proofs.Cases.{binary_case, and_case, or_case, comma_case, choice_case, set_case}
use Rattle.cl_check_sound.proofs.Expressing.{kinds_in, node_piece, node_looked, piece_is, sound_is}
use Rattle.cl_check_sound.proofs.Typed.{number_piece, truth_piece, variable_piece, no_misfit, not_known, prefix_piece}
use Rattle.cl_check_sound.proofs.Typed.{step_piece, indexed_piece, cast_piece, type_declares}

-- the parts of an expression are sound where they stand
parts_sound : (asked : Asked) (env : Env) (role : Role) (form : Form) (w : List ℕ) (f l : ℕ) (parts : Forest) →
    is_expression form ≡ true → AreOperands parts → SoundTree asked env role (node form w f l parts) →
    SoundHere asked (inside env form w) parts
parts_sound asked env role form w f l parts e h s = sound_plain form e asked (inside env form w) None parts h s.0

-- the node itself, with its parts made
node_sound : (asked : Asked) (env : Env) (sites : List Place) (role : Role) (form : Form) (w : List ℕ) (f l : ℕ)
    (parts : Forest) → IsExpression (node form w f l parts) → SoundTree asked env role (node form w f l parts) →
    (k : Fault) →
    at_fault asked (node_looked env role form w f parts (parts_here (inside env form w) sites parts).pieces) k ≡ false
node_sound asked env sites role form w f l parts h s k =
    let o = of_expressions (node form w f l parts) h in sound_is asked env sites role form w f l parts o.0 o.1 s.1.0 k

-- what is proved of the parts holds of the node
node_fits : (P : Program) (g : Function) (env : Env) (sites : List Place) (form : Form) (w : List ℕ) (f l : ℕ)
    (parts : Forest) → IsExpression (node form w f l parts) →
    PieceFits P g (node_piece env (inside env form w) form w f parts (parts_here (inside env form w) sites parts)) →
    PieceFits P g (meant env sites (node form w f l parts)).piece
node_fits P g env sites form w f l parts h x =
    let o = of_expressions (node form w f l parts) h in
    subst (PieceFits P g) (sym (piece_is env sites form w f l parts o.0 o.1)) x

-- the kinds of arguments
pub arguments_known : (P : Program) (g : Function) (ps : List Piece) → (ks : List Kind) → AllFit P g ps ks →
    all_known (kinds_in ps) ≡ Some ks
arguments_known P g [] [] h = refl
arguments_known P g (p ∷ ps) (k ∷ ks) h =
    ap (λ z. on_both z (all_known (kinds_in ps)) (λ a as'. Some (a ∷ as'))) h.0 ∙
    ap (λ z. on_both (Some k) z (λ a as'. Some (a ∷ as'))) (arguments_known P g ps ks h.2)
arguments_known P g [] (k ∷ ks) h = absurd h
arguments_known P g (p ∷ ps) [] h = absurd h

-- arguments with their kinds
pub record Arguments (P : Program) (g : Function) (ps : List Piece) : Type 0 where
  pub kinds' : List Kind
  pub fit : AllFit P g ps kinds'

one_more : (P : Program) (g : Function) (p : Piece) (ps : List Piece) → PieceFits P g p → Arguments P g ps →
    Arguments P g (p ∷ ps)
one_more P g p ps x xs = record { kinds' = x.kind ∷ xs.kinds'; fit = (x.known, x.fits, xs.fit) }

count_same : (P : Program) (g : Function) (ps : List Piece) (ks : List Kind) → AllFit P g ps ks →
    length (kinds_in ps) ≡ length ks
count_same P g [] [] h = refl
count_same P g (p ∷ ps) (k ∷ ks) h = ap suc (count_same P g ps ks h.2)
count_same P g [] (k ∷ ks) h = absurd h
count_same P g (p ∷ ps) [] h = absurd h

not_is : (b : Bool) → not b ≡ false → b ≡ true
not_is true h = refl
not_is false h = absurd (false≢true (sym h))

and_rest : (a b : Bool) → a ≡ true → (a && b) ≡ false → b ≡ false
and_rest true b e h = h
and_rest false b e h = absurd (false≢true e)

call_found : (c : Callee) (ks : List Kind) (r : Kind) → arity_fits c (length ks) ≡ true → call_fits c ks ≡ true →
    call_result c ks ≡ Some r → call_kind c ks ≡ Some r
call_found c ks r a b e = by (arity_fits c (length ks)) (call_fits c ks) a b
  where
    by : (x y : Bool) → x ≡ true → y ≡ true → (if x && y then call_result c ks else None) ≡ Some r
    by true true a b = e
    by true false a b = absurd (false≢true b)
    by false y a b = absurd (false≢true a)

-- a call whose name is known, with as many arguments as it takes and of the kinds that it takes
call_piece_by : (P : Program) (g : Function) (ms : List (List ℕ)) (env : Env) (place : Place) (sites : List Place)
    (q : List ℕ) (ps : List Piece) (o : Option Callee) (xs : Arguments P g ps) → callee_of env q ≡ o →
    Fits P g ms env → not (is_some o) ≡ false →
    given o (λ c. not (arity_fits c (length (kinds_in ps)))) ≡ false →
    given o (λ c. given (all_known (kinds_in ps)) (λ as'. arity_fits c (length as') && not (call_fits c as'))) ≡
    false → (o ≡ Some undefined → is_called ms q ≡ true) →
    PieceFits P g (record {
      kind = on_both o (all_known (kinds_in ps)) call_kind;
      what = (call_made place sites ps o).what;
    })
call_piece_by P g ms env place sites q ps None xs e fit u n a l = absurd (false≢true (sym u))
call_piece_by P g ms env place sites q ps (Some c) xs e fit u n a l =
    let known = arguments_known P g ps xs.kinds' xs.fit in
    let x = callee_fits P g ms env q c fit e in
    let r = call_known P ms q c xs.kinds' x (λ d. l (ap (λ z. Some z) d)) in
    let arity = not_is (arity_fits c (length xs.kinds'))
    (ap (λ z. not (arity_fits c z)) (sym (count_same P g ps xs.kinds' xs.fit)) ∙ n) in
    let fits' = not_is (call_fits c xs.kinds')
    (and_rest (arity_fits c (length xs.kinds')) (not (call_fits c xs.kinds')) arity
    (ap (λ z. given z (λ as'. arity_fits c (length as') && not (call_fits c as'))) (sym known) ∙ a)) in
    let found = call_found c xs.kinds' r.0 arity fits' r.1 in
    record {
      kind = r.0;
      known = ap (λ z. on_both (Some c) z call_kind) known ∙ found;
      fits = called_fits P g ms q place sites c ps xs.kinds' r.0 x xs.fit found;
    }

call_piece : (P : Program) (g : Function) (ms : List (List ℕ)) (env : Env) (place : Place) (sites : List Place)
    (q : List ℕ) (ps : List Piece) → Arguments P g ps → Fits P g ms env → not (is_some (callee_of env q)) ≡ false →
    given (callee_of env q) (λ c. not (arity_fits c (length (kinds_in ps)))) ≡ false →
    given (callee_of env q) (λ c. given (all_known (kinds_in ps)) (λ as'. arity_fits c (length as') &&
    not (call_fits c as'))) ≡ false → (callee_of env q ≡ Some undefined → is_called ms q ≡ true) →
    PieceFits P g (record {
      kind = on_both (callee_of env q) (all_known (kinds_in ps)) call_kind;
      what = (call_made place sites ps (callee_of env q)).what;
    })
call_piece P g ms env place sites q ps xs fit u n a l =
    call_piece_by P g ms env place sites q ps (callee_of env q) xs refl fit u n a l

mutual
  unfolding inside kind_step make misfits

  pub fits_expression : (P : Program) (g : Function) (asked : Asked) (env : Env) (role : Role) (sites : List Place)
      (t : Syntax) → IsExpression t → SoundTree asked env role t → Fits P g asked.missing env →
      PieceFits P g (meant env sites t).piece
  fits_expression P g asked env role sites (node forms.NumberNode w f l none) h s fit =
      node_fits P g env sites forms.NumberNode w f l none h
      (number_piece P g (literal_in w) h (constant_fits (node forms.NumberNode w f l none)))
  fits_expression P g asked env role sites (node forms.TruthNode w f l none) h s fit =
      node_fits P g env sites forms.TruthNode w f l none h
      (truth_piece P g (truth_in w) h (constant_fits (node forms.TruthNode w f l none)))
  fits_expression P g asked env role sites (node forms.VariableNode w f l none) h s fit =
      let k = node_sound asked env sites role forms.VariableNode w f l none h s in
      node_fits P g env sites forms.VariableNode w f l none h (variable_piece P g asked.missing env (place_of env f)
      sites (name_in w) fit (not_known (is_some (name_kind env (name_in w))) (k faults.UnknownName)))
  fits_expression P g asked env role sites (node forms.ParenNode w f l (more a none)) h s fit =
      let q = parts_sound asked env role forms.ParenNode w f l (more a none) refl
      (of_expressions (node forms.ParenNode w f l (more a none)) h).1 s in
      node_fits P g env sites forms.ParenNode w f l (more a none) h (fits_expression P g asked env roles.Other sites a
      h q.0 fit)
  fits_expression P g asked env role sites (node forms.BorNode w f l (more a (more b none))) h s fit =
      let q = parts_sound asked env role forms.BorNode w f l (more a (more b none)) refl
      (of_expressions (node forms.BorNode w f l (more a (more b none))) h).1 s in
      let x = fits_expression P g asked env roles.Other sites a h.1 q.0 fit in
      let y = fits_expression P g asked env roles.Other (meant env sites a).sites b h.2 q.1.0 fit in
      let k = node_sound asked env sites role forms.BorNode w f l (more a (more b none)) h s in
      let m = no_misfit asked (node_looked env role forms.BorNode w f (more a (more b none))
      ((meant env sites a).piece ∷ (meant env (meant env sites a).sites b).piece ∷ [])) (k faults.OperandTypes) in
      node_fits P g env sites forms.BorNode w f l (more a (more b none)) h
      (binary_case P g (binary_in w) ((meant env (meant env sites a).sites b).sites) ((meant env sites a).piece)
      ((meant env (meant env sites a).sites b).piece) x y h.0 m)
  fits_expression P g asked env role sites (node forms.BxorNode w f l (more a (more b none))) h s fit =
      let q = parts_sound asked env role forms.BxorNode w f l (more a (more b none)) refl
      (of_expressions (node forms.BxorNode w f l (more a (more b none))) h).1 s in
      let x = fits_expression P g asked env roles.Other sites a h.1 q.0 fit in
      let y = fits_expression P g asked env roles.Other (meant env sites a).sites b h.2 q.1.0 fit in
      let k = node_sound asked env sites role forms.BxorNode w f l (more a (more b none)) h s in
      let m = no_misfit asked (node_looked env role forms.BxorNode w f (more a (more b none))
      ((meant env sites a).piece ∷ (meant env (meant env sites a).sites b).piece ∷ [])) (k faults.OperandTypes) in
      node_fits P g env sites forms.BxorNode w f l (more a (more b none)) h
      (binary_case P g (binary_in w) ((meant env (meant env sites a).sites b).sites) ((meant env sites a).piece)
      ((meant env (meant env sites a).sites b).piece) x y h.0 m)
  fits_expression P g asked env role sites (node forms.BandNode w f l (more a (more b none))) h s fit =
      let q = parts_sound asked env role forms.BandNode w f l (more a (more b none)) refl
      (of_expressions (node forms.BandNode w f l (more a (more b none))) h).1 s in
      let x = fits_expression P g asked env roles.Other sites a h.1 q.0 fit in
      let y = fits_expression P g asked env roles.Other (meant env sites a).sites b h.2 q.1.0 fit in
      let k = node_sound asked env sites role forms.BandNode w f l (more a (more b none)) h s in
      let m = no_misfit asked (node_looked env role forms.BandNode w f (more a (more b none))
      ((meant env sites a).piece ∷ (meant env (meant env sites a).sites b).piece ∷ [])) (k faults.OperandTypes) in
      node_fits P g env sites forms.BandNode w f l (more a (more b none)) h
      (binary_case P g (binary_in w) ((meant env (meant env sites a).sites b).sites) ((meant env sites a).piece)
      ((meant env (meant env sites a).sites b).piece) x y h.0 m)
  fits_expression P g asked env role sites (node forms.EqualNode w f l (more a (more b none))) h s fit =
      let q = parts_sound asked env role forms.EqualNode w f l (more a (more b none)) refl
      (of_expressions (node forms.EqualNode w f l (more a (more b none))) h).1 s in
      let x = fits_expression P g asked env roles.Other sites a h.1 q.0 fit in
      let y = fits_expression P g asked env roles.Other (meant env sites a).sites b h.2 q.1.0 fit in
      let k = node_sound asked env sites role forms.EqualNode w f l (more a (more b none)) h s in
      let m = no_misfit asked (node_looked env role forms.EqualNode w f (more a (more b none))
      ((meant env sites a).piece ∷ (meant env (meant env sites a).sites b).piece ∷ [])) (k faults.OperandTypes) in
      node_fits P g env sites forms.EqualNode w f l (more a (more b none)) h
      (binary_case P g (binary_in w) ((meant env (meant env sites a).sites b).sites) ((meant env sites a).piece)
      ((meant env (meant env sites a).sites b).piece) x y h.0 m)
  fits_expression P g asked env role sites (node forms.OrderNode w f l (more a (more b none))) h s fit =
      let q = parts_sound asked env role forms.OrderNode w f l (more a (more b none)) refl
      (of_expressions (node forms.OrderNode w f l (more a (more b none))) h).1 s in
      let x = fits_expression P g asked env roles.Other sites a h.1 q.0 fit in
      let y = fits_expression P g asked env roles.Other (meant env sites a).sites b h.2 q.1.0 fit in
      let k = node_sound asked env sites role forms.OrderNode w f l (more a (more b none)) h s in
      let m = no_misfit asked (node_looked env role forms.OrderNode w f (more a (more b none))
      ((meant env sites a).piece ∷ (meant env (meant env sites a).sites b).piece ∷ [])) (k faults.OperandTypes) in
      node_fits P g env sites forms.OrderNode w f l (more a (more b none)) h
      (binary_case P g (binary_in w) ((meant env (meant env sites a).sites b).sites) ((meant env sites a).piece)
      ((meant env (meant env sites a).sites b).piece) x y h.0 m)
  fits_expression P g asked env role sites (node forms.ShiftNode w f l (more a (more b none))) h s fit =
      let q = parts_sound asked env role forms.ShiftNode w f l (more a (more b none)) refl
      (of_expressions (node forms.ShiftNode w f l (more a (more b none))) h).1 s in
      let x = fits_expression P g asked env roles.Other sites a h.1 q.0 fit in
      let y = fits_expression P g asked env roles.Other (meant env sites a).sites b h.2 q.1.0 fit in
      let k = node_sound asked env sites role forms.ShiftNode w f l (more a (more b none)) h s in
      let m = no_misfit asked (node_looked env role forms.ShiftNode w f (more a (more b none))
      ((meant env sites a).piece ∷ (meant env (meant env sites a).sites b).piece ∷ [])) (k faults.OperandTypes) in
      node_fits P g env sites forms.ShiftNode w f l (more a (more b none)) h
      (binary_case P g (binary_in w) ((meant env (meant env sites a).sites b).sites) ((meant env sites a).piece)
      ((meant env (meant env sites a).sites b).piece) x y h.0 m)
  fits_expression P g asked env role sites (node forms.SumNode w f l (more a (more b none))) h s fit =
      let q = parts_sound asked env role forms.SumNode w f l (more a (more b none)) refl
      (of_expressions (node forms.SumNode w f l (more a (more b none))) h).1 s in
      let x = fits_expression P g asked env roles.Other sites a h.1 q.0 fit in
      let y = fits_expression P g asked env roles.Other (meant env sites a).sites b h.2 q.1.0 fit in
      let k = node_sound asked env sites role forms.SumNode w f l (more a (more b none)) h s in
      let m = no_misfit asked (node_looked env role forms.SumNode w f (more a (more b none))
      ((meant env sites a).piece ∷ (meant env (meant env sites a).sites b).piece ∷ [])) (k faults.OperandTypes) in
      node_fits P g env sites forms.SumNode w f l (more a (more b none)) h
      (binary_case P g (binary_in w) ((meant env (meant env sites a).sites b).sites) ((meant env sites a).piece)
      ((meant env (meant env sites a).sites b).piece) x y h.0 m)
  fits_expression P g asked env role sites (node forms.TermNode w f l (more a (more b none))) h s fit =
      let q = parts_sound asked env role forms.TermNode w f l (more a (more b none)) refl
      (of_expressions (node forms.TermNode w f l (more a (more b none))) h).1 s in
      let x = fits_expression P g asked env roles.Other sites a h.1 q.0 fit in
      let y = fits_expression P g asked env roles.Other (meant env sites a).sites b h.2 q.1.0 fit in
      let k = node_sound asked env sites role forms.TermNode w f l (more a (more b none)) h s in
      let m = no_misfit asked (node_looked env role forms.TermNode w f (more a (more b none))
      ((meant env sites a).piece ∷ (meant env (meant env sites a).sites b).piece ∷ [])) (k faults.OperandTypes) in
      node_fits P g env sites forms.TermNode w f l (more a (more b none)) h
      (binary_case P g (binary_in w) ((meant env (meant env sites a).sites b).sites) ((meant env sites a).piece)
      ((meant env (meant env sites a).sites b).piece) x y h.0 m)
  fits_expression P g asked env role sites (node forms.ExprNode w f l (more a (more b none))) h s fit =
      let q = parts_sound asked env role forms.ExprNode w f l (more a (more b none)) refl
      (of_expressions (node forms.ExprNode w f l (more a (more b none))) h).1 s in
      let x = fits_expression P g asked env roles.Other sites a h.0 q.0 fit in
      let y = fits_expression P g asked env roles.Other (meant env sites a).sites b h.1 q.1.0 fit in
      let k = node_sound asked env sites role forms.ExprNode w f l (more a (more b none)) h s in
      let m = no_misfit asked (node_looked env role forms.ExprNode w f (more a (more b none))
      ((meant env sites a).piece ∷ (meant env (meant env sites a).sites b).piece ∷ [])) (k faults.OperandTypes) in
      node_fits P g env sites forms.ExprNode w f l (more a (more b none)) h
      (comma_case P g ((meant env (meant env sites a).sites b).sites) ((meant env sites a).piece)
      ((meant env (meant env sites a).sites b).piece) x y m)
  fits_expression P g asked env role sites (node forms.AndNode w f l (more a (more b none))) h s fit =
      let q = parts_sound asked env role forms.AndNode w f l (more a (more b none)) refl
      (of_expressions (node forms.AndNode w f l (more a (more b none))) h).1 s in
      let x = fits_expression P g asked env roles.Other sites a h.0 q.0 fit in
      let y = fits_expression P g asked env roles.Other (meant env sites a).sites b h.1 q.1.0 fit in
      let k = node_sound asked env sites role forms.AndNode w f l (more a (more b none)) h s in
      let m = no_misfit asked (node_looked env role forms.AndNode w f (more a (more b none))
      ((meant env sites a).piece ∷ (meant env (meant env sites a).sites b).piece ∷ [])) (k faults.OperandTypes) in
      node_fits P g env sites forms.AndNode w f l (more a (more b none)) h
      (and_case P g (place_of env f) ((meant env (meant env sites a).sites b).sites) ((meant env sites a).piece)
      ((meant env (meant env sites a).sites b).piece) x y m)
  fits_expression P g asked env role sites (node forms.OrNode w f l (more a (more b none))) h s fit =
      let q = parts_sound asked env role forms.OrNode w f l (more a (more b none)) refl
      (of_expressions (node forms.OrNode w f l (more a (more b none))) h).1 s in
      let x = fits_expression P g asked env roles.Other sites a h.0 q.0 fit in
      let y = fits_expression P g asked env roles.Other (meant env sites a).sites b h.1 q.1.0 fit in
      let k = node_sound asked env sites role forms.OrNode w f l (more a (more b none)) h s in
      let m = no_misfit asked (node_looked env role forms.OrNode w f (more a (more b none))
      ((meant env sites a).piece ∷ (meant env (meant env sites a).sites b).piece ∷ [])) (k faults.OperandTypes) in
      node_fits P g env sites forms.OrNode w f l (more a (more b none)) h
      (or_case P g (place_of env f) ((meant env (meant env sites a).sites b).sites) ((meant env sites a).piece)
      ((meant env (meant env sites a).sites b).piece) x y m)
  fits_expression P g asked env role sites (node forms.AssignNode w f l (more a (more b none))) h s fit =
      let q = parts_sound asked env role forms.AssignNode w f l (more a (more b none)) refl
      (of_expressions (node forms.AssignNode w f l (more a (more b none))) h).1 s in
      let x = fits_expression P g asked env roles.Other sites a h.1 q.0 fit in
      let y = fits_expression P g asked env roles.Other (meant env sites a).sites b h.2 q.1.0 fit in
      let k = node_sound asked env sites role forms.AssignNode w f l (more a (more b none)) h s in
      let m = no_misfit asked (node_looked env role forms.AssignNode w f (more a (more b none))
      ((meant env sites a).piece ∷ (meant env (meant env sites a).sites b).piece ∷ [])) (k faults.OperandTypes) in
      node_fits P g env sites forms.AssignNode w f l (more a (more b none)) h
      (set_case P g (setting_in w) ((meant env (meant env sites a).sites b).sites) ((meant env sites a).piece)
      ((meant env (meant env sites a).sites b).piece) x y h.0 m (k faults.NotAssignable)
      (k faults.ConstantWritten) (k faults.PointerRoot))
  fits_expression P g asked env role sites (node forms.CondNode w f l (more c (more a (more b none)))) h s fit =
      let q = parts_sound asked env role forms.CondNode w f l (more c (more a (more b none))) refl
      (of_expressions (node forms.CondNode w f l (more c (more a (more b none)))) h).1 s in
      let s1 = (meant env sites c).sites in
      let s2 = (meant env s1 a).sites in
      let z = fits_expression P g asked env roles.Other sites c h.0 q.0 fit in
      let x = fits_expression P g asked env roles.Other s1 a h.1 q.1.0 fit in
      let y = fits_expression P g asked env roles.Other s2 b h.2 q.1.1.0 fit in
      let k = node_sound asked env sites role forms.CondNode w f l (more c (more a (more b none))) h s in
      let m = no_misfit asked (node_looked env role forms.CondNode w f (more c (more a (more b none)))
      ((meant env sites c).piece ∷ (meant env s1 a).piece ∷ (meant env s2 b).piece ∷ []))
      (k faults.OperandTypes) in
      node_fits P g env sites forms.CondNode w f l (more c (more a (more b none))) h
      (choice_case P g (place_of env f) (meant env s2 b).sites (meant env sites c).piece (meant env s1 a).piece
      (meant env s2 b).piece z x y m)
  fits_expression P g asked env role sites (node forms.PostfixNode w f l (more a none)) h s fit =
      let q = parts_sound asked env role forms.PostfixNode w f l (more a none) refl
      (of_expressions (node forms.PostfixNode w f l (more a none)) h).1 s in
      let k = node_sound asked env sites role forms.PostfixNode w f l (more a none) h s in
      node_fits P g env sites forms.PostfixNode w f l (more a none) h
      (step_piece P g (postfix_in w) (place_of env f) (meant env sites a).sites (meant env sites a).piece h.0 h.1
      (fits_expression P g asked env roles.Other sites a h.2 q.0 fit) (k faults.NotAssignable)
      (k faults.ConstantWritten))
  fits_expression P g asked env role sites (node forms.PostfixNode w f l (more a (more b none))) h s fit =
      let q = parts_sound asked env role forms.PostfixNode w f l (more a (more b none)) refl
      (of_expressions (node forms.PostfixNode w f l (more a (more b none))) h).1 s in
      let x = fits_expression P g asked env roles.Other sites a h.1 q.0 fit in
      let y = fits_expression P g asked env roles.Other (meant env sites a).sites b h.2 q.1.0 fit in
      let k = node_sound asked env sites role forms.PostfixNode w f l (more a (more b none)) h s in
      let m = no_misfit asked (node_looked env role forms.PostfixNode w f (more a (more b none))
      ((meant env sites a).piece ∷ (meant env (meant env sites a).sites b).piece ∷ [])) (k faults.OperandTypes) in
      node_fits P g env sites forms.PostfixNode w f l (more a (more b none)) h
      (indexed_piece P g (postfix_in w) (place_of env f) ((meant env (meant env sites a).sites b).sites)
      ((meant env sites a).piece) ((meant env (meant env sites a).sites b).piece) h.0 x y m)
  fits_expression P g asked env role sites (node forms.UnaryNode w f l (more a none)) h s fit =
      let q = parts_sound asked env role forms.UnaryNode w f l (more a none) refl
      (of_expressions (node forms.UnaryNode w f l (more a none)) h).1 s in
      let k = node_sound asked env sites role forms.UnaryNode w f l (more a none) h s in
      let m = no_misfit asked (node_looked env role forms.UnaryNode w f (more a none) ((meant env sites a).piece ∷
      [])) (k faults.OperandTypes) in
      node_fits P g env sites forms.UnaryNode w f l (more a none) h
      (prefix_piece P g (prefix_in w) (place_of env f) (meant env sites a).sites a (IsExpression a)
      (meant env sites a).piece h (λ e. fits_expression P g asked env roles.Other sites a e q.0 fit)
      (λ e. type_declares asked env roles.Other a e q.0) m (k faults.NotAssignable) (k faults.ConstantWritten))
  fits_expression P g asked env role sites (node forms.CastNode w f l (more t (more a none))) h s fit =
      let q = parts_sound asked env role forms.CastNode w f l (more t (more a none)) refl
      (of_expressions (node forms.CastNode w f l (more t (more a none))) h).1 s in
      let s1 = (meant env sites t).sites in
      let x = fits_expression P g asked env roles.Other s1 a h.1 q.1.0 fit in
      let k = node_sound asked env sites role forms.CastNode w f l (more t (more a none)) h s in
      let m = no_misfit asked (node_looked env role forms.CastNode w f (more t (more a none))
      ((meant env sites t).piece ∷ (meant env s1 a).piece ∷ [])) (k faults.OperandTypes) in
      let d = type_declares asked env roles.Other t h.0 q.0 in
      node_fits P g env sites forms.CastNode w f l (more t (more a none)) h
      (cast_piece P g (meant env s1 a).sites (declared_in t) d.0 (meant env sites t).piece (meant env s1 a).piece
      d.1 x m)
  fits_expression P g asked env role sites (node forms.CallNode w f l parts) h s fit =
      let i = in_arguments env (name_in w) in
      let q = parts_sound asked env role forms.CallNode w f l parts refl
      (of_expressions (node forms.CallNode w f l parts) h).1 s in
      let k = node_sound asked env sites role forms.CallNode w f l parts h s in
      let listed = subst (λ e. callee_of e (name_in w) ≡ Some undefined → is_called asked.missing (name_in w) ≡ true)
      (visible_same env forms.CallNode w f l parts refl (of_expressions (node forms.CallNode w f l parts) h).1)
      s.1.1 in
      node_fits P g env sites forms.CallNode w f l parts h
      (call_piece P g asked.missing env (place_of env f) (parts_here i sites parts).sites (name_in w)
      (parts_here i sites parts).pieces (fits_arguments P g asked i sites parts h q fit) fit
      (k faults.UnknownName) (k faults.ArgumentCount) (k faults.ArgumentType) listed)
  fits_expression P g asked env role sites t h s fit = absurd h

  pub fits_arguments : (P : Program) (g : Function) (asked : Asked) (env : Env) (sites : List Place)
      (parts : Forest) → AreExpressions parts → SoundHere asked env parts → Fits P g asked.missing env →
      Arguments P g (parts_here env sites parts).pieces
  fits_arguments P g asked env sites none h s fit = record { kinds' = []; fit = tt }
  fits_arguments P g asked env sites (more p ps) h s fit =
      one_more P g (meant env sites p).piece (parts_here env (meant env sites p).sites ps).pieces
      (fits_expression P g asked env roles.Other sites p h.0 s.0 fit)
      (fits_arguments P g asked env (meant env sites p).sites ps h.1 s.1 fit)
