-- An expression that is not at fault has a kind, and its piece fits it: one lemma for each sort of operator.
use Rattle.std.proofs.Common.{◌≡◌, List, [], ◌∷◌, length, Option, None, Some, Bool, true, false, not, ◌&&◌, ◌||◌}
use Rattle.std.proofs.Common.{refl, ap, sym, ◌∙◌, subst, if◌then◌else◌}
use Rattle.std.proofs.lemmas.Bool.{false≢true}
use Rattle.wg_num.specs.declared.types.Place.{Place}
use Rattle.wg_num.specs.declared.types.Bin.{Bin}
use Rattle.cl_model.specs.Tree as tree
use Rattle.cl_model.specs.Tree.{Function, Program, Apply, single}
use Rattle.cl_meaning.specs.declared.types.Declared.{Declared}
use Rattle.cl_meaning.specs.declared.operators.Setting.{Setting}
use Rattle.cl_meaning.specs.Conversions.{promoted, common}
use Rattle.cl_meaning.specs.declared.kind.Kind.{Kind}
use Rattle.cl_meaning.specs.Kinds.{is_some, on_one, on_both, pair_kind, binary_kind, logic_kind, choice_kind}
use Rattle.cl_meaning.specs.Kinds.{choice_part_kind, comma_kind, cast_kind, index_kind, element_kind, address_kind}
use Rattle.cl_meaning.specs.Kinds.{operator_kind, set_kind, step_kind, value_kind, is_target, is_fixed}
use Rattle.cl_meaning.specs.Kinds.{is_constant_memory, assignable, value_fits, root_changes}
use Rattle.cl_meaning.specs.Faults.{given, given_pair, given_first, lacks_pair, lacks, setting_misfits, unassignable}
use Rattle.cl_meaning.specs.Faults.{choice_misfits}
use Rattle.cl_meaning.specs.Typed.{value, Piece}
use Rattle.cl_meaning.specs.Expressions.{read, type_in, logical, operand, binary_what, binary_made, set_what}
use Rattle.cl_meaning.specs.Expressions.{set_made, step_what, index_made, content_made, address_what, and_made}
use Rattle.cl_meaning.specs.Expressions.{or_made, choice_made, comma_made}
use Rattle.cl_check_sound.specs.Fits.{KindFits, PieceFits}
use Rattle.cl_check_sound.proofs.Typing.{binary_fits}
use Rattle.cl_check_sound.proofs.Assigning.{set_fits, step_fits, both_true}
use Rattle.cl_check_sound.proofs.Elements.{index_fits, content_fits, address_fits, operator_fits, cast_fits, and_fits}
use Rattle.cl_check_sound.proofs.Elements.{or_fits, choice_fits, comma_fits}

-- ---- tests

not_false : (b : Bool) → not b ≡ false → b ≡ true
not_false true h = refl
not_false false h = absurd (false≢true (sym h))

pub neither_first : (a b : Bool) → (a || b) ≡ false → a ≡ false
neither_first true b h = absurd (false≢true (sym h))
neither_first false b h = refl

pub neither_second : (a b : Bool) → (a || b) ≡ false → b ≡ false
neither_second true b h = absurd (false≢true (sym h))
neither_second false b h = h

-- where the first of two holds and not both do, the second does not
not_second : (a b : Bool) → a ≡ true → (a && b) ≡ false → b ≡ false
not_second true b e h = h
not_second false b e h = absurd (false≢true e)

pub the_some : {A : Type 0} (o : Option A) → is_some o ≡ true → (a : A) × (o ≡ Some a)
the_some None h = absurd (false≢true h)
the_some (Some a) h = (a, refl)

-- ---- the kinds of pieces

-- an operator on two operands whose table has an entry
pair_found : (P : Program) (f : Function) (g : Kind → Kind → Option Kind) (a b : Piece) (x : PieceFits P f a)
    (y : PieceFits P f b) → lacks_pair g (a.kind ∷ b.kind ∷ []) ≡ false → (r : Kind) × (g x.kind y.kind ≡ Some r)
pair_found P f g a b x y h =
    let m : lacks_pair g (Some x.kind ∷ Some y.kind ∷ []) ≡ false =
    ap (λ z. lacks_pair g (Some x.kind ∷ z ∷ [])) (sym y.known) ∙
    (ap (λ z. lacks_pair g (z ∷ b.kind ∷ [])) (sym x.known) ∙ h) in
    the_some (g x.kind y.kind) (not_false (is_some (g x.kind y.kind)) m)

pair_kind_is : (P : Program) (f : Function) (g : Kind → Kind → Option Kind) (a b : Piece) (x : PieceFits P f a)
    (y : PieceFits P f b) → pair_kind g (a.kind ∷ b.kind ∷ []) ≡ g x.kind y.kind
pair_kind_is P f g a b x y =
    ap (λ z. pair_kind g (z ∷ b.kind ∷ [])) x.known ∙ ap (λ z. pair_kind g (Some x.kind ∷ z ∷ [])) y.known

one_found : (P : Program) (f : Function) (g : Kind → Option Kind) (a : Piece) (x : PieceFits P f a) →
    lacks g (a.kind ∷ []) ≡ false → (r : Kind) × (g x.kind ≡ Some r)
one_found P f g a x h =
    the_some (g x.kind) (not_false (is_some (g x.kind)) (ap (λ z. lacks g (z ∷ [])) (sym x.known) ∙ h))

one_kind_is : (P : Program) (f : Function) (g : Kind → Option Kind) (a : Piece) (x : PieceFits P f a) →
    on_one a.kind g ≡ g x.kind
one_kind_is P f g a x = ap (λ z. on_one z g) x.known

-- ---- operators with two operands

pub binary_case : (P : Program) (f : Function) (o : Option Bin) (sites : List Place) (a b : Piece) → PieceFits P f a →
    PieceFits P f b → is_some o ≡ true → given o (λ op. lacks_pair (binary_kind op) (a.kind ∷ b.kind ∷ [])) ≡ false →
    PieceFits P f (record {
      kind = on_one o (λ op. pair_kind (binary_kind op) (a.kind ∷ b.kind ∷ []));
      what = (binary_made sites o (a ∷ b ∷ [])).what;
    })
binary_case P f None sites a b x y s h = absurd (false≢true s)
binary_case P f (Some op) sites a b x y s h =
    let r = pair_found P f (binary_kind op) a b x y h in
    record {
      kind = r.0;
      known = pair_kind_is P f (binary_kind op) a b x y ∙ r.1;
      fits = subst (λ z. KindFits P f r.0 (binary_what op a b z b.kind)) (sym x.known)
          (subst (λ z. KindFits P f r.0 (binary_what op a b (Some x.kind) z)) (sym y.known)
          (binary_fits P f op a b x.kind y.kind r.0 x.known y.known x.fits y.fits r.1));
    }

pub and_case : (P : Program) (f : Function) (place : Place) (sites : List Place) (a b : Piece) → PieceFits P f a →
    PieceFits P f b → lacks_pair logic_kind (a.kind ∷ b.kind ∷ []) ≡ false →
    PieceFits P f (record {
      kind = pair_kind logic_kind (a.kind ∷ b.kind ∷ []);
      what = (and_made place sites (a ∷ b ∷ [])).what;
    })
and_case P f place sites a b x y h =
    let r = pair_found P f logic_kind a b x y h in
    record {
      kind = r.0;
      known = pair_kind_is P f logic_kind a b x y ∙ r.1;
      fits = and_fits P f (length sites) a b x.kind y.kind r.0 x.known y.known x.fits y.fits r.1;
    }

pub or_case : (P : Program) (f : Function) (place : Place) (sites : List Place) (a b : Piece) → PieceFits P f a →
    PieceFits P f b → lacks_pair logic_kind (a.kind ∷ b.kind ∷ []) ≡ false →
    PieceFits P f (record {
      kind = pair_kind logic_kind (a.kind ∷ b.kind ∷ []);
      what = (or_made place sites (a ∷ b ∷ [])).what;
    })
or_case P f place sites a b x y h =
    let r = pair_found P f logic_kind a b x y h in
    record {
      kind = r.0;
      known = pair_kind_is P f logic_kind a b x y ∙ r.1;
      fits = or_fits P f (length sites) a b x.kind y.kind r.0 x.known y.known x.fits y.fits r.1;
    }

pub comma_case : (P : Program) (f : Function) (sites : List Place) (a b : Piece) → PieceFits P f a → PieceFits P f b →
    lacks_pair comma_kind (a.kind ∷ b.kind ∷ []) ≡ false →
    PieceFits P f (record {
      kind = pair_kind comma_kind (a.kind ∷ b.kind ∷ []);
      what = (comma_made sites (a ∷ b ∷ [])).what;
    })
comma_case P f sites a b x y h =
    let r = pair_found P f comma_kind a b x y h in
    record {
      kind = r.0;
      known = pair_kind_is P f comma_kind a b x y ∙ r.1;
      fits = comma_fits P f a b x.kind y.kind r.0 x.fits y.fits r.1;
    }

pub index_case : (P : Program) (f : Function) (place : Place) (sites : List Place) (a b : Piece) → PieceFits P f a →
    PieceFits P f b → lacks_pair index_kind (a.kind ∷ b.kind ∷ []) ≡ false →
    PieceFits P f (record { kind = on_both a.kind b.kind index_kind; what = (index_made place sites a b a.kind).what })
index_case P f place sites a b x y h =
    let r = pair_found P f index_kind a b x y h in
    record {
      kind = r.0;
      known = pair_kind_is P f index_kind a b x y ∙ r.1;
      fits = subst (λ z. KindFits P f r.0 (index_made place sites a b z).what) (sym x.known)
          (index_fits P f place sites a b x.kind y.kind r.0 x.known y.known x.fits y.fits r.1);
    }

pub choice_case : (P : Program) (f : Function) (place : Place) (sites : List Place) (c a b : Piece) →
    PieceFits P f c → PieceFits P f a → PieceFits P f b → choice_misfits (c.kind ∷ a.kind ∷ b.kind ∷ []) ≡ false →
    PieceFits P f (record {
      kind = choice_part_kind (c.kind ∷ a.kind ∷ b.kind ∷ []);
      what = (choice_made place sites (c ∷ a ∷ b ∷ [])).what;
    })
choice_case P f place sites c a b z x y h =
    let m : choice_misfits (Some z.kind ∷ Some x.kind ∷ Some y.kind ∷ []) ≡ false =
    ap (λ k. choice_misfits (Some z.kind ∷ Some x.kind ∷ k ∷ [])) (sym y.known) ∙
    (ap (λ k. choice_misfits (Some z.kind ∷ k ∷ b.kind ∷ [])) (sym x.known) ∙
    (ap (λ k. choice_misfits (k ∷ a.kind ∷ b.kind ∷ [])) (sym z.known) ∙ h)) in
    let r = the_some (choice_kind z.kind x.kind y.kind) (not_false (is_some (choice_kind z.kind x.kind y.kind)) m) in
    record {
      kind = r.0;
      known = ap (λ k. choice_part_kind (k ∷ a.kind ∷ b.kind ∷ [])) z.known ∙
          (ap (λ k. choice_part_kind (Some z.kind ∷ k ∷ b.kind ∷ [])) x.known ∙
          (ap (λ k. choice_part_kind (Some z.kind ∷ Some x.kind ∷ k ∷ [])) y.known ∙ r.1));
      fits =
          subst (λ k. KindFits P f r.0 (value
          (tree.Choose (length sites) (read c.what) (operand (common (type_in k) (type_in b.kind)) a)
          (operand (common (type_in k) (type_in b.kind)) b)))) (sym x.known)
          (subst (λ k. KindFits P f r.0 (value
          (tree.Choose (length sites) (read c.what) (operand (common (type_in (Some x.kind)) (type_in k)) a)
          (operand (common (type_in (Some x.kind)) (type_in k)) b)))) (sym y.known)
          (choice_fits P f (length sites) c a b z.kind x.kind y.kind r.0 z.known x.known y.known z.fits x.fits y.fits
          r.1));
    }

-- ---- one operand

pub operator_case : (P : Program) (f : Function) (op : _) (a : Piece) → PieceFits P f a →
    lacks (operator_kind op) (a.kind ∷ []) ≡ false →
    PieceFits P f (record {
      kind = on_one a.kind (operator_kind op);
      what = value (Apply (tree.Unary op (promoted (type_in a.kind))) (single (logical a)));
    })
operator_case P f op a x h =
    let r = one_found P f (operator_kind op) a x h in
    record {
      kind = r.0;
      known = one_kind_is P f (operator_kind op) a x ∙ r.1;
      fits = subst (λ k. KindFits P f r.0 (value (Apply (tree.Unary op (promoted (type_in k))) (single (logical a)))))
          (sym x.known) (operator_fits P f op a x.kind r.0 x.known x.fits r.1);
    }

pub address_case : (P : Program) (f : Function) (a : Piece) → PieceFits P f a →
    lacks address_kind (a.kind ∷ []) ≡ false →
    PieceFits P f (record { kind = on_one a.kind address_kind; what = address_what a.what })
address_case P f a x h =
    let r = one_found P f address_kind a x h in
    record {
      kind = r.0;
      known = one_kind_is P f address_kind a x ∙ r.1;
      fits = address_fits P f a x.kind r.0 x.fits r.1;
    }

pub content_case : (P : Program) (f : Function) (place : Place) (sites : List Place) (a : Piece) → PieceFits P f a →
    lacks element_kind (a.kind ∷ []) ≡ false →
    PieceFits P f (record { kind = on_one a.kind element_kind; what = (content_made place sites a a.kind).what })
content_case P f place sites a x h =
    let r = one_found P f element_kind a x h in
    record {
      kind = r.0;
      known = one_kind_is P f element_kind a x ∙ r.1;
      fits = subst (λ k. KindFits P f r.0 (content_made place sites a k).what) (sym x.known)
          (content_fits P f place sites a x.kind r.0 x.known x.fits r.1);
    }

pub cast_case : (P : Program) (f : Function) (d : Declared) (a : Piece) → PieceFits P f a →
    lacks (cast_kind (Some d)) (a.kind ∷ []) ≡ false →
    PieceFits P f (record { kind = on_one a.kind (cast_kind (Some d)); what = value (operand d.of a) })
cast_case P f d a x h =
    let r = one_found P f (cast_kind (Some d)) a x h in
    record {
      kind = r.0;
      known = one_kind_is P f (cast_kind (Some d)) a x ∙ r.1;
      fits = cast_fits P f d a x.kind r.0 x.known x.fits r.1;
    }

-- ---- assignments

-- a target that is neither const nor in constant memory
target_free : (a : Kind) → unassignable a ≡ false → is_constant_memory a ≡ false → assignable a ≡ true
target_free a h m = by (is_target a) (is_fixed a) (is_constant_memory a) h m
  where
    by : (t c k : Bool) → (not t || (c && not k)) ≡ false → k ≡ false → (t && not (c || k)) ≡ true
    by true true true h m = absurd (false≢true (sym m))
    by true true false h m = absurd (false≢true (sym h))
    by true false true h m = absurd (false≢true (sym m))
    by true false false h m = refl
    by false c k h m = absurd (false≢true (sym h))

is_target_of : (a : Kind) → assignable a ≡ true → is_target a ≡ true
is_target_of a h = (both_true (is_target a) (not (is_fixed a || is_constant_memory a)) h).0

set_found : (s : Setting) (j k : Kind) → unassignable j ≡ false → is_constant_memory j ≡ false →
    (is_target j && not (value_fits s j k)) ≡ false → (is_target j && root_changes s j k) ≡ false →
    set_kind s j k ≡ Some (value_kind j)
set_found s j k u m v r =
    let a = target_free j u m in
    let t = is_target_of j a in
    by (assignable j) (value_fits s j k) (root_changes s j k) a
    (not_false (value_fits s j k) (not_second (is_target j) (not (value_fits s j k)) t v))
    (not_second (is_target j) (root_changes s j k) t r)
  where
    by : (a v r : Bool) → a ≡ true → v ≡ true → r ≡ false →
        (if a && (v && not r) then Some (value_kind j) else None) ≡ Some (value_kind j)
    by true true true a v r = absurd (false≢true (sym r))
    by true true false a v r = refl
    by true false r' a v r = absurd (false≢true v)
    by false v' r' a v r = absurd (false≢true a)

-- a test of two kinds that are known
pair_test : (P : Program) (f : Function) (test : Kind → Kind → Bool) (a b : Piece) (x : PieceFits P f a)
    (y : PieceFits P f b) → given_pair (a.kind ∷ b.kind ∷ []) test ≡ false → test x.kind y.kind ≡ false
pair_test P f test a b x y h = ap (λ z. given_pair (Some x.kind ∷ z ∷ []) test) (sym y.known) ∙
    (ap (λ z. given_pair (z ∷ b.kind ∷ []) test) (sym x.known) ∙ h)

one_test : (P : Program) (f : Function) (test : Kind → Bool) (a : Piece) (x : PieceFits P f a) →
    given_first (a.kind ∷ []) test ≡ false → test x.kind ≡ false
one_test P f test a x h = ap (λ z. given_first (z ∷ []) test) (sym x.known) ∙ h

pub set_case : (P : Program) (f : Function) (o : Option Setting) (sites : List Place) (a b : Piece) →
    PieceFits P f a → PieceFits P f b → is_some o ≡ true →
    given o (setting_misfits (a.kind ∷ b.kind ∷ [])) ≡ false →
    given_pair (a.kind ∷ b.kind ∷ []) (λ j k. unassignable j) ≡ false →
    given_pair (a.kind ∷ b.kind ∷ []) (λ j k. is_constant_memory j) ≡ false →
    given o (λ s. given_pair (a.kind ∷ b.kind ∷ []) (λ j k. is_target j && root_changes s j k)) ≡ false →
    PieceFits P f (record {
      kind = on_one o (λ s. pair_kind (set_kind s) (a.kind ∷ b.kind ∷ []));
      what = (set_made sites o (a ∷ b ∷ [])).what;
    })
set_case P f None sites a b x y s v u m r = absurd (false≢true s)
set_case P f (Some s) sites a b x y t v u m r =
    let e = set_found s x.kind y.kind (pair_test P f (λ j k. unassignable j) a b x y u)
    (pair_test P f (λ j k. is_constant_memory j) a b x y m)
    (pair_test P f (λ j k. is_target j && not (value_fits s j k)) a b x y v)
    (pair_test P f (λ j k. is_target j && root_changes s j k) a b x y r) in
    record {
      kind = value_kind x.kind;
      known = pair_kind_is P f (set_kind s) a b x y ∙ e;
      fits = subst (λ z. KindFits P f (value_kind x.kind) (set_what s a b z)) (sym x.known)
          (set_fits P f s a b x.kind y.kind (value_kind x.kind) x.known y.known x.fits y.fits e);
    }

pub step_case : (P : Program) (f : Function) (op : Bin) (old : Bool) (a : Piece) → PieceFits P f a →
    given_first (a.kind ∷ []) unassignable ≡ false → given_first (a.kind ∷ []) is_constant_memory ≡ false →
    PieceFits P f (record { kind = on_one a.kind step_kind; what = step_what op old a a.kind })
step_case P f op old a x u m =
    let e : step_kind x.kind ≡ Some (value_kind x.kind) =
    ap (λ z. if z then Some (value_kind x.kind) else None) (target_free x.kind (one_test P f unassignable a x u)
    (one_test P f is_constant_memory a x m)) in
    record {
      kind = value_kind x.kind;
      known = one_kind_is P f step_kind a x ∙ e;
      fits = subst (λ z. KindFits P f (value_kind x.kind) (step_what op old a z)) (sym x.known)
          (step_fits P f op old a x.kind (value_kind x.kind) x.fits e);
    }
