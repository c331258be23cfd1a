-- A key says what it was made of, and an entry its key: each part ends by itself.
use Rattle.std.proofs.Common.{◌≡◌, ◌≤◌, ◌+◌, ℕ, List, [], ◌∷◌, ◌++◌, length}
use Rattle.std.proofs.Common.{refl, sym, ap, ◌∙◌, append_assoc, arith}
use Rattle.std.proofs.lemmas.List.{take_at, drop_at, length-append}
use Rattle.cl_prep.specs.declared.prep.Define.{Define}
use Rattle.wg_object.specs.Text.{eight, word_text, flat_texts, list_text, object_text}
use Rattle.wg_object.specs.Valid.{IsEight}
use Rattle.wg_object.specs.Reading.{eight_at, word_at}
use Rattle.wg_object.proofs.Again.{eight_again}
use Rattle.wg_object.proofs.DeepEnough.{one_object}
use Rattle.wg_cache.specs.Keys.{define_text, key_name}
use Rattle.wg_cache.specs.Laws.{AreDefines, KeyLaw, NameLaw, EntryLaw}

-- ---- one part, and what is behind it

pub record AreSame {X : Type 0} (a b : X) (rest other : List ℕ) : Type 0 where
  pub part : a ≡ b
  pub behind : rest ≡ other

both : {X : Type 0} (a b : X) (rest other : List ℕ) → ◌≡◌ {A = X × List ℕ} (a, rest) (b, other) → AreSame a b rest other
both {X} a b rest other e = record {
  part = ap (λ (p : X × List ℕ). p.0) e;
  behind = ap (λ (p : X × List ℕ). p.1) e;
}

eights_same : (a b : ℕ) (rest other : List ℕ) → IsEight a → IsEight b → eight a ++ rest ≡ eight b ++ other →
    AreSame a b rest other
eights_same a b rest other few less e =
    both a b rest other (sym (eight_again a rest few) ∙ ap eight_at e ∙ eight_again b other less)

-- bytes behind their count are read again, whatever they are
word_front : (word rest : List ℕ) → IsEight (length word) → word_at (word_text word ++ rest) ≡ (word, rest)
unfolding word_at
word_front word rest few =
    ap word_at (append_assoc (eight (length word)) word rest) ∙ rw (
      eight_again (length word) (word ++ rest) few,
      take_at word rest (length word) refl,
      drop_at word rest (length word) refl,
    ) refl

words_same : (a b rest other : List ℕ) → IsEight (length a) → IsEight (length b) →
    word_text a ++ rest ≡ word_text b ++ other → AreSame a b rest other
words_same a b rest other few less e =
    both a b rest other (sym (word_front a rest few) ∙ ap word_at e ∙ word_front b other less)

-- ---- lengths

eight_long : (n : ℕ) → length (eight n) ≡ 8
unfolding eight
eight_long n = refl

pub word_long : (word rest : List ℕ) → length (word_text word ++ rest) ≡ 8 + length word + length rest
word_long word rest =
    let e = eight_long (length word) in
    omega (arith, length-append (word_text word) rest, length-append (eight (length word)) word, e)

define_long : (d : Define) (rest : List ℕ) → length (define_text d ++ rest) ≡ 16 + length d.name + length rest
define_long d rest =
    let e = eight_long d.value in
    omega (
      arith,
      length-append (define_text d) rest,
      word_long d.name (eight d.value),
      e,
    )

-- at least a byte for each
defines_long : (defines : List Define) → length defines ≤ length (flat_texts define_text defines)
defines_long [] = omega arith
defines_long (d ∷ defines) =
    omega (arith, define_long d (flat_texts define_text defines), defines_long defines)

-- ---- numbers for names

one_same : (d e : Define) (rest other : List ℕ) → IsEight d.value → IsEight e.value → IsEight (length d.name) →
    IsEight (length e.name) → define_text d ++ rest ≡ define_text e ++ other → AreSame d e rest other
one_same d e rest other small less few fewer same =
    let w = words_same d.name e.name (eight d.value ++ rest) (eight e.value ++ other) few fewer
    (sym (append_assoc (word_text d.name) (eight d.value) rest) ∙ same ∙
    append_assoc (word_text e.name) (eight e.value) other) in
    let v = eights_same d.value e.value rest other small less w.behind in
    let made : List ℕ → ℕ → Define = λ n x. record { name = n; value = x } in
    record {
      part = ap (λ (n : List ℕ). made n d.value) w.part ∙ ap (made e.name) v.part;
      behind = v.behind;
    }

each_same : (xs ys : List Define) → length xs ≡ length ys → AreDefines xs → AreDefines ys →
    IsEight (length (flat_texts define_text xs)) → flat_texts define_text xs ≡ flat_texts define_text ys → xs ≡ ys
each_same [] [] long fit fits few e = refl
each_same [] (y ∷ ys) long fit fits few e = absurd (omega (arith, long))
each_same (x ∷ xs) [] long fit fits few e = absurd (omega (arith, long))
each_same (x ∷ xs) (y ∷ ys) long fit fits few e =
    let rest = flat_texts define_text xs in
    let other = flat_texts define_text ys in
    let a = define_long x rest in
    let b = define_long y other in
    let all = ap (λ (t : List ℕ). length t) e in
    let short : IsEight (length x.name) = omega (arith, a, few) in
    let shorter : IsEight (length y.name) = omega (arith, a, b, all, few) in
    let s = one_same x y rest other fit.0 fits.0 short shorter e in
    let fewer : IsEight (length rest) = omega (arith, a, few) in
    let same : length xs ≡ length ys = omega (arith, long) in
    ap (λ (d : Define). d ∷ xs) s.part ∙ ap (λ (l : List Define). y ∷ l)
    (each_same xs ys same fit.1 fits.1 fewer s.behind)

lists_same : (xs ys : List Define) → AreDefines xs → AreDefines ys → IsEight (length (list_text define_text xs)) →
    list_text define_text xs ≡ list_text define_text ys → xs ≡ ys
lists_same xs ys fit fits few e =
    let rest = flat_texts define_text xs in
    let other = flat_texts define_text ys in
    let a : length (list_text define_text xs) ≡ 8 + length rest =
    omega (arith, length-append (eight (length xs)) rest, eight_long (length xs)) in
    let b : length (list_text define_text ys) ≡ 8 + length other =
    omega (arith, length-append (eight (length ys)) other, eight_long (length ys)) in
    let all = ap (λ (t : List ℕ). length t) e in
    let short : IsEight (length xs) = omega (arith, a, few, defines_long xs) in
    let shorter : IsEight (length ys) = omega (arith, a, b, all, few, defines_long ys) in
    let s = eights_same (length xs) (length ys) rest other short shorter e in
    let fewer : IsEight (length rest) = omega (arith, a, few) in
    each_same xs ys s.part fit fits fewer s.behind

-- ---- keys

-- lanes, and what is behind them
first_of : List ℕ → ℕ
first_of [] = 0
first_of (n ∷ ns) = n

others_of : List ℕ → List ℕ
others_of [] = []
others_of (n ∷ ns) = ns

lanes_same : (a b : ℕ) (rest other : List ℕ) → a ∷ rest ≡ b ∷ other → AreSame a b rest other
unfolding first_of others_of
lanes_same a b rest other e = record { part = ap first_of e; behind = ap others_of e }

pub one_key : KeyLaw
one_key source others defines numbers kernel name lanes count fit fits few e =
    let last = list_text define_text defines in
    let final = list_text define_text numbers in
    let a = word_long source (word_text kernel ++ (lanes ∷ last)) in
    let b = word_long others (word_text name ++ (count ∷ final)) in
    let c = word_long kernel (lanes ∷ last) in
    let d = word_long name (count ∷ final) in
    let all = ap (λ (t : List ℕ). length t) e in
    let s = words_same source others (word_text kernel ++ (lanes ∷ last)) (word_text name ++ (count ∷ final))
    (omega (arith, a, few)) (omega (arith, a, b, all, few)) e in
    let k = words_same kernel name (lanes ∷ last) (count ∷ final)
    (omega (arith, a, c, few)) (omega (arith, a, b, d, all, few)) s.behind in
    let l = lanes_same lanes count last final k.behind in
    let fewer : IsEight (length last) = omega (arith, a, c, few) in
    record {
      source_is = s.part;
      defines_are = lists_same defines numbers fit fits fewer l.behind;
      kernel_is = k.part;
      lanes_are = l.part;
    }

-- ---- names

pub names_begin : NameLaw
unfolding key_name
names_begin key = (_, refl)

-- ---- entries

pub one_entry : EntryLaw
one_entry bytes key other o p few h g =
    let a = word_long key (object_text o) in
    let b = word_long other (object_text p) in
    let first = ap (λ (t : List ℕ). length t) h.is in
    let second = ap (λ (t : List ℕ). length t) g.is in
    let s = words_same key other (object_text o) (object_text p) (omega (arith, a, first, few))
    (omega (arith, b, second, few)) (sym h.is ∙ g.is) in
    record {
      key_is = s.part;
      object_is = one_object (object_text o) o p (record { object = h.object; text = refl }) (record {
        object = g.object;
        text = s.behind;
      });
    }
