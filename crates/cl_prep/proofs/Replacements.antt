-- A replacement, step by step.
use Rattle.std.proofs.Common.{ℕ, suc, List, [], ◌∷◌, ◌++◌, length, map, get_or, set, Bool, true, false, ◌||◌, ◌⊎◌}
use Rattle.std.proofs.Common.{inl, inr, ◌≡◌, ◌≢◌, ◌+◌, ◌<◌, ◌≤◌, refl, sym, ap, subst, ◌∙◌, arith, append_assoc}
use Rattle.std.proofs.Common.{length-append, length-set, get_or-set_same, get_or-set_other, None, Some, Vec, Global}
use Rattle.std.proofs.Common.{Bor}
use Rattle.std.specs.Prelude.{position}
use Rattle.std.proofs.Math.Dec.{eqb}
use Rattle.std.specs.Map.{keys_of}
use Rattle.std.proofs.lemmas.List.{append-nil, length_push, get_or_default, length-map, map-append}
use Rattle.std.proofs.lemmas.List.Quantifiers.{position-Some}
use Rattle.std.proofs.lemmas.Bool.Decides.{eqb_tells}
use Rattle.std.specs.Str.{bytes_eq}
use Rattle.cl_token.specs.Lexeme.{Lexeme, lexeme_of, lexemes_of}
use Rattle.cl_token.specs.declared.token.Token.{Token}
use Rattle.cl_prep.specs.declared.replace.Frame.{Frame}
use Rattle.cl_prep.specs.declared.replace.Stop.{Stop}
use Rattle.cl_prep.specs.declared.replace.Stop.TheVariants as kinds
use Rattle.cl_prep.specs.Expands.{placed, token_limit, replacement_limit}
use Rattle.cl_prep.specs.Names.{Names, replacement}
use Rattle.cl_prep.specs.Pending.{Pending, inside, is_member}
use Rattle.cl_prep.specs.Frames.{Entries, IsNumber, pending_of, pendings_of, AreFrames, AreMarks, IsFrameOf, AreClear}
use Rattle.cl_prep.specs.Frames.{IsReading, IsNotFree, Replaces, Exceeds, StopsBy}
use Rattle.cl_prep.proofs.Tables.{same_bytes, bytes_same, test_is}
use Rattle.cl_prep.proofs.Finite.{names_in, table_at_most}
use Rattle.cl_prep.proofs.Reading.{Going, pending, open_name, closed_name, no_name, going_start, going_end, going_out}
use Rattle.cl_prep.proofs.Reading.{going_on, going_in, at_least}

-- ---- numbers and marks

length_keys : (es : Entries) → length (keys_of es) ≡ length es
length_keys [] = refl
length_keys (e ∷ es) = ap suc (length_keys es)

record Numbered (es : Entries) (number : ℕ) (word : List ℕ) : Type 0 where
  within : number < length es
  key : Vec ℕ Global
  named : word ≡ key.items
  stands : key ≡ get_or (keys_of es) number key

numbered : (es : Entries) (number : ℕ) (word : List ℕ) → IsNumber es number word → Numbered es number word
numbered [] number word h = absurd (cc)
numbered (e ∷ es) number word h =
    let p = position-Some (λ k. bytes_eq word k.items) (keys_of (e ∷ es)) number e.0 h in
    let d : Vec ℕ Global = get_or (keys_of (e ∷ es)) number e.0 in
    record {
      within = omega (arith, p.0, length_keys (e ∷ es));
      key = d;
      named = same_bytes word d.items p.1;
      stands = get_or_default (keys_of (e ∷ es)) number e.0 d p.0;
    }

-- a number is that of one name
one_name : (es : Entries) (number : ℕ) (v w : List ℕ) → IsNumber es number v → IsNumber es number w → v ≡ w
one_name es number v w h k =
    let a = numbered es number v h in
    let b = numbered es number w k in
    let same : a.key ≡ b.key = a.stands ∙
    get_or_default (keys_of es) number a.key b.key (omega (arith, a.within, length_keys es)) ∙ sym b.stands in
    a.named ∙ ap (λ (x : Vec ℕ Global). x.items) same ∙ sym b.named

some_is : (a b : ℕ) → Some a ≡ Some b → a ≡ b
some_is a b h = cc

one_number : (es : Entries) (m n : ℕ) (v w : List ℕ) → v ≡ w → IsNumber es m v → IsNumber es n w → m ≡ n
one_number es m n v w e h k =
    some_is m n (sym h ∙ ap (λ (x : List ℕ). position (λ k. bytes_eq x k.items) (keys_of es)) e ∙ k)

other_word : (es : Entries) (m n : ℕ) (v w : List ℕ) → m ≢ n → IsNumber es m v → IsNumber es n w → bytes_eq v w ≡ false
other_word es m n v w apart h k = elim (test_is (bytes_eq v w)) [
  | inl t ↦ absurd (apart (one_number es m n v w (same_bytes v w t) h k))
  | inr f ↦ f
]

member_other : (word : List ℕ) (p : Pending) (ps : List Pending) → bytes_eq p.name word ≡ false →
    is_member word (p ∷ ps) ≡ is_member word ps
member_other word p ps h = rw h refl

marks_in : (es : Entries) (marks : List Bool) (ps : List Pending) (p : Pending) (n : ℕ) → AreMarks es marks ps →
    IsNumber es n p.name → AreMarks es (set marks n true) (p ∷ ps)
marks_in es marks ps p n h k = record {
  enough = omega (arith, h.enough, length-set marks n true);
  marked = λ number word i. by number word i (eqb_tells number n);
}
  where
    by : (number : ℕ) (word : List ℕ) → IsNumber es number word → ((eqb number n ≡ true) × (number ≡ n)) ⊎
        ((eqb number n ≡ false) × (number ≢ n)) → get_or (set marks n true) number false ≡ is_member word (p ∷ ps)
    by number word i (inl w) =
        let within : n < length marks = omega (arith, (numbered es n p.name k).within, h.enough) in
        let same : p.name ≡ word = one_name es n p.name word k (subst (λ (x : ℕ). IsNumber es x word) w.1 i) in
        let yes : bytes_eq p.name word ≡ true = bytes_same p.name word same in
        ap (λ (x : ℕ). get_or (set marks n true) x false) w.1 ∙ get_or-set_same marks n true false within ∙
        sym (rw yes refl)
    by number word i (inr w) =
        get_or-set_other marks n number true false w.1 ∙ h.marked number word i ∙
        sym (member_other word p ps (other_word es n number p.name word (λ e. w.1 (sym e)) k i))

marks_out : (es : Entries) (marks : List Bool) (ps : List Pending) (p : Pending) (n : ℕ) →
    AreMarks es marks (p ∷ ps) → IsNumber es n p.name → is_member p.name ps ≡ false → AreMarks es (set marks n false) ps
marks_out es marks ps p n h k free = record {
  enough = omega (arith, h.enough, length-set marks n false);
  marked = λ number word i. by number word i (eqb_tells number n);
}
  where
    by : (number : ℕ) (word : List ℕ) → IsNumber es number word → ((eqb number n ≡ true) × (number ≡ n)) ⊎
        ((eqb number n ≡ false) × (number ≢ n)) → get_or (set marks n false) number false ≡ is_member word ps
    by number word i (inl w) =
        let within : n < length marks = omega (arith, (numbered es n p.name k).within, h.enough) in
        let same : p.name ≡ word = one_name es n p.name word k (subst (λ (x : ℕ). IsNumber es x word) w.1 i) in
        ap (λ (x : ℕ). get_or (set marks n false) x false) w.1 ∙ get_or-set_same marks n false false within ∙
        sym free ∙ ap (λ (x : List ℕ). is_member x ps) same
    by number word i (inr w) =
        get_or-set_other marks n number false false w.1 ∙ h.marked number word i ∙
        member_other word p ps (other_word es n number p.name word (λ e. w.1 (sym e)) k i)

no_length : {A : Type 0} (xs : List A) → length xs ≡ 0 → xs ≡ []
no_length [] h = refl
no_length (x ∷ xs) h = absurd (omega arith)

-- ---- marks are those of frames

clear_marks : (es : Entries) (marks : List Bool) → AreClear marks → length es ≤ length marks → AreMarks es marks []
clear_marks es marks h l = record { enough = l; marked = λ number word i. h number }

only_in : (marks : List Bool) (q : Frame) (fs : List Frame) →
    ((k : ℕ) → get_or marks k false ≡ true → IsFrameOf k fs) → (k : ℕ) →
    get_or (set marks q.number true) k false ≡ true → IsFrameOf k (q ∷ fs)
only_in marks q fs h k e = elim (eqb_tells k q.number) [
  | inl w ↦ inl w.1
  | inr w ↦ inr (h k (sym (get_or-set_other marks q.number k true false w.1) ∙ e))
]

only_out : (marks : List Bool) (f : Frame) (fs : List Frame) → f.number < length marks →
    ((k : ℕ) → get_or marks k false ≡ true → IsFrameOf k (f ∷ fs)) → (k : ℕ) →
    get_or (set marks f.number false) k false ≡ true → IsFrameOf k fs
only_out marks f fs l h k e = elim (eqb_tells k f.number) [
  | inl w ↦ (let no : get_or (set marks f.number false) k false ≡
      false = ap (λ (x : ℕ). get_or (set marks f.number false) x false) w.1 ∙
      get_or-set_same marks f.number false false l in absurd (cc))
  | inr w ↦ other w.1 (h k (sym (get_or-set_other marks f.number k false false w.1) ∙ e))
]
  where
    other : (k ≢ f.number) → IsFrameOf k (f ∷ fs) → IsFrameOf k fs
    other apart (inl same) = absurd (apart same)
    other apart (inr w) = w

only_behind : (f g : Frame) (fs : List Frame) (k : ℕ) → g.number ≡ f.number → IsFrameOf k (f ∷ fs) →
    IsFrameOf k (g ∷ fs)
only_behind f g fs k e (inl w) = inl (w ∙ sym e)
only_behind f g fs k e (inr w) = inr w

all_clear : (marks : List Bool) → ((k : ℕ) → get_or marks k false ≡ true → ⊥) → AreClear marks
all_clear marks h k = elim (test_is (get_or marks k false)) [ inl t ↦ absurd (h k t) | inr f ↦ f ]

-- ---- reading

module _ (es : Entries) (t : Token) (body : List Lexeme) (before : List Token) (start : ℕ) where
  abbrev names : Names
  names = names_in es

  abbrev Reads : List Frame → List Bool → List Token → ℕ → Type 0
  Reads frames marks out count = IsReading es names t body before start frames marks out count

  -- the name itself is replaced
  pub begins : (f : Frame) (marks : List Bool) → IsNumber es f.number f.name.now → f.name.now ≡ t.word →
      lexemes_of f.left.now ≡ body → AreClear marks → length es ≤ length marks → length before ≤ token_limit →
      start + 1 ≤ replacement_limit
      → Reads (f ∷ []) (set marks f.number true) before (start + 1)
  begins f marks n w b m enough few seldom = record {
    tokens = [];
    replacements = 0;
    given = sym (append-nil before);
    counted = omega arith;
    going = subst (λ (x : List ℕ). Going names x body [] 0 (pending_of f ∷ [])) w
        (subst (λ (x : List Lexeme). Going names f.name.now x [] 0 (pending_of f ∷ [])) b
        (going_start names f.name.now (lexemes_of f.left.now)));
    open_frames = (n, refl, tt);
    open_marks = marks_in es marks [] (pending_of f) f.number (clear_marks es marks m enough) n;
    only_open = only_in marks f [] (λ k e. let none = m k in absurd (cc));
    few = few;
    seldom = seldom;
  }

  -- a replacement is read to its end
  pub leaves : (f : Frame) (fs : List Frame) (marks : List Bool) (out : List Token) (count : ℕ) →
      Reads (f ∷ fs) marks out count → f.left.now ≡ [] → Reads fs (set marks f.number false) out count
  leaves f fs marks out count h e =
      let left : lexemes_of f.left.now ≡ [] = ap lexemes_of e in
      record {
        tokens = h.tokens;
        replacements = h.replacements;
        given = h.given;
        counted = h.counted;
        going = going_out names t.word body h.tokens h.replacements f.name.now (pendings_of fs)
            (subst (λ (l : List Lexeme). Going names t.word body h.tokens h.replacements (pending f.name.now l ∷
            pendings_of fs)) left h.going);
        open_frames = h.open_frames.2;
        open_marks =
            marks_out es marks (pendings_of fs) (pending_of f) f.number h.open_marks h.open_frames.0 h.open_frames.1;
        only_open = only_out marks f fs (omega (
          arith,
          (numbered es f.number f.name.now h.open_frames.0).within,
          h.open_marks.enough,
        )) h.only_open;
        few = h.few;
        seldom = h.seldom;
      }

  -- what follows the next token of a frame
  pub record IsBehind (f g : Frame) (x : Token) : Type 0 where
    pub left : f.left.now ≡ x ∷ g.left.now
    pub number : g.number ≡ f.number
    pub name : g.name.now ≡ f.name.now

  next_left : (f g : Frame) (x : Token) → IsBehind f g x → lexemes_of f.left.now ≡ lexeme_of x ∷ lexemes_of g.left.now
  next_left f g x b = ap lexemes_of b.left

  same_frame : (f g : Frame) (x : Token) (fs : List Frame) → IsBehind f g x → AreFrames es (f ∷ fs) →
      AreFrames es (g ∷ fs)
  same_frame f g x fs b h = (
    subst (λ (n : ℕ). IsNumber es n g.name.now) (sym b.number) (subst (λ (w : List ℕ). IsNumber es f.number w)
        (sym b.name) h.0),
    ap (λ (w : List ℕ). is_member w (pendings_of fs)) b.name ∙ h.1,
    h.2,
  )

  -- names are members alike whatever is left of a frame
  same_member : (f g : Frame) (x : Token) (fs : List Frame) → IsBehind f g x → (w : List ℕ) →
      is_member w (pendings_of (f ∷ fs)) ≡ is_member w (pendings_of (g ∷ fs))
  same_member f g x fs b w = ap (λ (n : List ℕ). bytes_eq n w || is_member w (pendings_of fs)) (sym b.name)

  same_marks : (f g : Frame) (x : Token) (fs : List Frame) (marks : List Bool) → IsBehind f g x →
      AreMarks es marks (pendings_of (f ∷ fs)) → AreMarks es marks (pendings_of (g ∷ fs))
  same_marks f g x fs marks b h = record {
    enough = h.enough;
    marked = λ number word i. h.marked number word i ∙ same_member f g x fs b word;
  }

  -- the frame, in parts
  opened : (f g : Frame) (x : Token) (fs : List Frame) (done : List Lexeme) (k : ℕ) → IsBehind f g x →
      Going names t.word body done k (pendings_of (f ∷ fs)) →
      Going names t.word body done k (pending g.name.now (lexeme_of x ∷ lexemes_of g.left.now) ∷ pendings_of fs)
  opened f g x fs done k b h =
      subst (λ (w : List ℕ). Going names t.word body done k (pending w (lexeme_of x ∷ lexemes_of g.left.now) ∷
      pendings_of fs)) (sym b.name)
      (subst (λ (l : List Lexeme). Going names t.word body done k (pending f.name.now l ∷ pendings_of fs))
      (next_left f g x b) h)

  -- the next token is given
  pub gives_next : (f g : Frame) (x : Token) (fs : List Frame) (marks : List Bool) (out new : List Token)
      (count : ℕ) → Reads (f ∷ fs) marks out count → IsBehind f g x
      → replacement (inside names (pendings_of (g ∷ fs))) (lexeme_of x) ≡ None →
      new ≡ out ++ placed t (lexeme_of x) ∷ [] → length out + 1 ≤ token_limit → Reads (g ∷ fs) marks new count
  gives_next f g x fs marks out new count h b r e few = record {
    tokens = h.tokens ++ lexeme_of x ∷ [];
    replacements = h.replacements;
    given =
        e ∙ ap (λ (ts : List Token). ts ++ placed t (lexeme_of x) ∷ []) h.given ∙
        append_assoc before (map (placed t) h.tokens) (placed t (lexeme_of x) ∷ [])
        ∙ ap (λ (ts : List Token). before ++ ts) (sym (map-append (placed t) h.tokens (lexeme_of x ∷ [])));
    counted = h.counted;
    going = going_on names t.word body h.tokens h.replacements g.name.now (lexeme_of x) (lexemes_of g.left.now)
        (pendings_of fs) r (opened f g x fs h.tokens h.replacements b h.going);
    open_frames = same_frame f g x fs b h.open_frames;
    open_marks = same_marks f g x fs marks b h.open_marks;
    only_open = λ k i. only_behind f g fs k b.number (h.only_open k i);
    few = omega (arith, ap length e, length_push out (placed t (lexeme_of x)));
    seldom = h.seldom;
  }

  -- the next token is a name, and is replaced
  pub enters_next : (f g q : Frame) (x : Token) (fs : List Frame) (marks : List Bool) (out : List Token) (count : ℕ) →
      Reads (f ∷ fs) marks out count → IsBehind f g x
      → replacement (inside names (pendings_of (g ∷ fs))) (lexeme_of x) ≡ Some (lexemes_of q.left.now) →
      IsNumber es q.number q.name.now → q.name.now ≡ x.word → is_member x.word (pendings_of (g ∷ fs)) ≡ false →
      count + 1 ≤ replacement_limit
      → Reads (q ∷ g ∷ fs) (set marks q.number true) out (count + 1)
  enters_next f g q x fs marks out count h b r n w free seldom = record {
    tokens = h.tokens;
    replacements = suc h.replacements;
    given = h.given;
    counted = omega (arith, h.counted);
    going = subst (λ (v : List ℕ). Going names t.word body h.tokens (suc h.replacements)
        (pending v (lexemes_of q.left.now) ∷ pendings_of (g ∷ fs))) (sym w)
        (going_in names t.word body h.tokens h.replacements g.name.now (lexeme_of x) (lexemes_of g.left.now)
        (lexemes_of q.left.now) (pendings_of fs) r (opened f g x fs h.tokens h.replacements b h.going));
    open_frames =
        (n, ap (λ (v : List ℕ). is_member v (pendings_of (g ∷ fs))) w ∙ free, same_frame f g x fs b h.open_frames);
    open_marks =
        marks_in es marks (pendings_of (g ∷ fs)) (pending_of q) q.number (same_marks f g x fs marks b h.open_marks) n;
    only_open = only_in marks q (g ∷ fs) (λ k i. only_behind f g fs k b.number (h.only_open k i));
    few = h.few;
    seldom = seldom;
  }

  -- nothing is left
  pub ends : (marks : List Bool) (out : List Token) (count : ℕ) → Reads [] marks out count →
      Replaces names t body before out start count
  ends marks out count h = record {
    tokens = h.tokens;
    replacements = h.replacements;
    gives = going_end names t.word body h.tokens h.replacements h.going;
    out = h.given;
    counted = h.counted;
    few = omega (
      arith,
      ap length h.given,
      length-append before (map (placed t) h.tokens),
      length-map h.tokens (placed t),
      h.few,
    );
    seldom = omega (arith, h.counted, h.seldom);
  }

  size : (h : List Token) (n : List Lexeme) → h ≡ before ++ map (placed t) n → length h ≡ length before + length n
  size h n e = omega (arith, ap length e, length-append before (map (placed t) n), length-map n (placed t))

  -- one token more is too many
  pub over_tokens : (f g : Frame) (x : Token) (fs : List Frame) (marks : List Bool) (out : List Token) (count : ℕ) →
      Reads (f ∷ fs) marks out count → IsBehind f g x
      → replacement (inside names (pendings_of (g ∷ fs))) (lexeme_of x) ≡ None → token_limit ≤ length out →
      Exceeds names t body before start
  over_tokens f g x fs marks out count h b r over =
      let next = going_on names t.word body h.tokens h.replacements g.name.now (lexeme_of x) (lexemes_of g.left.now)
      (pendings_of fs) r (opened f g x fs h.tokens h.replacements b h.going) in
      let a = at_least (length es) names t.word body (h.tokens ++ lexeme_of x ∷ []) h.replacements
      (pendings_of (g ∷ fs)) (table_at_most es) next in
      record {
        tokens = a.all;
        replacements = a.replacements;
        gives = a.gives;
        over = inl (omega (arith, a.many, length_push h.tokens (lexeme_of x), size out h.tokens h.given));
      }

  -- one replaced name more is too many
  pub over_names : (f g q : Frame) (x : Token) (fs : List Frame) (marks : List Bool) (out : List Token) (count : ℕ) →
      Reads (f ∷ fs) marks out count → IsBehind f g x
      → replacement (inside names (pendings_of (g ∷ fs))) (lexeme_of x) ≡ Some (lexemes_of q.left.now) →
      replacement_limit ≤ count → Exceeds names t body before start
  over_names f g q x fs marks out count h b r over =
      let next = going_in names t.word body h.tokens h.replacements g.name.now (lexeme_of x) (lexemes_of g.left.now)
      (lexemes_of q.left.now) (pendings_of fs) r (opened f g x fs h.tokens h.replacements b h.going) in
      let a = at_least (length es) names t.word body h.tokens (suc h.replacements)
      (pending x.word (lexemes_of q.left.now) ∷ pendings_of (g ∷ fs)) (table_at_most es) next in
      record {
        tokens = a.all;
        replacements = a.replacements;
        gives = a.gives;
        over = inr (omega (arith, a.often, h.counted));
      }

  -- the name itself is one replaced name too many
  pub over_first : replacement_limit ≤ start → Exceeds names t body before start
  over_first over =
      let a = at_least (length es) names t.word body [] 0 (pending t.word body ∷ []) (table_at_most es)
      (going_start names t.word body) in
      record {
        tokens = a.all;
        replacements = a.replacements;
        gives = a.gives;
        over = inr (omega arith);
      }

  -- ---- the same, as the loop meets them

  abbrev behind : Frame → Bor (List Token) → Frame
  behind f left = record { number = f.number; name = f.name; left = left }

  is_behind : (f : Frame) (x : Token) (left : Bor (List Token)) → f.left.now ≡ x ∷ left.now →
      IsBehind f (behind f left) x
  is_behind f x left e = record { left = e; number = refl; name = refl }

  turned : (frames fs : List Frame) (marks : List Bool) (out : List Token) (count : ℕ) →
      Reads frames marks out count → frames ≡ fs → Reads fs marks out count
  turned frames fs marks out count h e = subst (λ (l : List Frame). Reads l marks out count) e h

  not_free : (f : Frame) (x : Token) (left : Bor (List Token)) (fs : List Frame) (marks : List Bool)
      (out : List Token) (count : ℕ) → Reads (f ∷ fs) marks out count → f.left.now ≡ x ∷ left.now
      → IsNotFree es names marks x → replacement (inside names (pendings_of (behind f left ∷ fs))) (lexeme_of x) ≡ None
  not_free f x left fs marks out count h e n = elim n [
    | inl none ↦ no_name names (pendings_of (behind f left ∷ fs)) (lexeme_of x) none
    | inr w ↦ closed_name names (pendings_of (behind f left ∷ fs)) (lexeme_of x)
        (sym ((same_marks f (behind f left) x fs marks (is_behind f x left e) h.open_marks).marked w.0 x.word w.1) ∙
        w.2)
  ]

  -- a name that is free
  pub record IsFree (q : Frame) (x : Token) (marks : List Bool) : Type 0 where
    pub replaced_by : replacement names (lexeme_of x) ≡ Some (lexemes_of q.left.now)
    pub name : q.name.now ≡ x.word
    pub number : IsNumber es q.number q.name.now
    pub unmarked : get_or marks q.number false ≡ false

  free_member : (f q : Frame) (x : Token) (left : Bor (List Token)) (fs : List Frame) (marks : List Bool)
      (out : List Token) (count : ℕ) → Reads (f ∷ fs) marks out count → f.left.now ≡ x ∷ left.now
      → IsFree q x marks → is_member x.word (pendings_of (behind f left ∷ fs)) ≡ false
  free_member f q x left fs marks out count h e r =
      sym ((same_marks f (behind f left) x fs marks (is_behind f x left e) h.open_marks).marked q.number x.word
      (subst (λ (w : List ℕ). IsNumber es q.number w) r.name r.number)) ∙ r.unmarked

  free_inside : (f q : Frame) (x : Token) (left : Bor (List Token)) (fs : List Frame) (marks : List Bool)
      (out : List Token) (count : ℕ) → Reads (f ∷ fs) marks out count → f.left.now ≡ x ∷ left.now
      → IsFree q x marks → replacement (inside names (pendings_of (behind f left ∷ fs))) (lexeme_of x) ≡
      Some (lexemes_of q.left.now)
  free_inside f q x left fs marks out count h e r =
      open_name names (pendings_of (behind f left ∷ fs)) (lexeme_of x) (lexemes_of q.left.now)
      (free_member f q x left fs marks out count h e r) r.replaced_by

  pub loop_start : (f : Frame) (frames fs : List Frame) (marks next : List Bool) → IsNumber es f.number f.name.now →
      f.name.now ≡ t.word → lexemes_of f.left.now ≡ body → AreClear marks → length es ≤ length marks →
      length before ≤ token_limit → start < replacement_limit
      → frames ≡ f ∷ fs → fs ≡ [] → next ≡ set marks f.number true → Reads frames next before (start + 1)
  loop_start f frames fs marks next n w b m enough few seldom e none k =
      let all : f ∷ [] ≡ frames = ap (λ (l : List Frame). f ∷ l) (sym none) ∙ sym e in
      subst (λ (l : List Frame). Reads l next before (start + 1)) all
      (subst (λ (l : List Bool). Reads (f ∷ []) l before (start + 1)) (sym k)
      (begins f marks n w b m enough few (omega arith)))

  pub loop_in : (frames new : List Frame) (f q : Frame) (x : Token) (left : Bor (List Token)) (fs : List Frame)
      (marks next : List Bool) (out : List Token) (count : ℕ)
      → Reads frames marks out count → frames ≡ f ∷ fs → f.left.now ≡ x ∷ left.now → IsFree q x marks →
      count < replacement_limit → new ≡ q ∷ behind f left ∷ fs → next ≡ set marks q.number true →
      Reads new next out (count + 1)
  loop_in frames new f q x left fs marks next out count h e l r few n m =
      let s = turned frames (f ∷ fs) marks out count h e in
      let t = enters_next f (behind f left) q x fs marks out count s (is_behind f x left l)
      (free_inside f q x left fs marks out count s l r) r.number r.name
      (free_member f q x left fs marks out count s l r) (omega arith) in
      subst (λ (k : List Bool). Reads new k out (count + 1)) (sym m)
      (subst (λ (k : List Frame). Reads k (set marks q.number true) out (count + 1)) (sym n) t)

  pub loop_over : (frames : List Frame) (f q : Frame) (x : Token) (left : Bor (List Token)) (fs : List Frame)
      (marks : List Bool) (out : List Token) (count : ℕ)
      → Reads frames marks out count → frames ≡ f ∷ fs → f.left.now ≡ x ∷ left.now → IsFree q x marks →
      replacement_limit ≤ count → Exceeds names t body before start
  loop_over frames f q x left fs marks out count h e l r over =
      let s = turned frames (f ∷ fs) marks out count h e in
      over_names f (behind f left) q x fs marks out count s (is_behind f x left l)
      (free_inside f q x left fs marks out count s l r) over

  pub loop_give : (frames new : List Frame) (f : Frame) (x : Token) (left : Bor (List Token)) (fs : List Frame)
      (marks : List Bool) (out given : List Token) (count : ℕ)
      → Reads frames marks out count → frames ≡ f ∷ fs → f.left.now ≡ x ∷ left.now → IsNotFree es names marks x →
      new ≡ behind f left ∷ fs → given ≡ out ++ placed t (lexeme_of x) ∷ [] → length out + 1 ≤ token_limit →
      Reads new marks given count
  loop_give frames new f x left fs marks out given count h e l r n g few =
      let s = turned frames (f ∷ fs) marks out count h e in
      subst (λ (k : List Frame). Reads k marks given count) (sym n) (gives_next f (behind f left) x fs marks out given
      count s (is_behind f x left l) (not_free f x left fs marks out count s l r) g few)

  pub loop_full : (frames : List Frame) (f : Frame) (x : Token) (left : Bor (List Token)) (fs : List Frame)
      (marks : List Bool) (out : List Token) (count : ℕ)
      → Reads frames marks out count → frames ≡ f ∷ fs → f.left.now ≡ x ∷ left.now → IsNotFree es names marks x →
      token_limit ≤ length out → Exceeds names t body before start
  loop_full frames f x left fs marks out count h e l r over =
      let s = turned frames (f ∷ fs) marks out count h e in
      over_tokens f (behind f left) x fs marks out count s (is_behind f x left l)
      (not_free f x left fs marks out count s l r) over

  pub loop_out : (frames : List Frame) (f : Frame) (fs : List Frame) (marks : List Bool) (out : List Token)
      (count : ℕ) → Reads frames marks out count → frames ≡ f ∷ fs → length f.left.now ≡ 0 →
      Reads fs (set marks f.number false) out count
  loop_out frames f fs marks out count h e l =
      leaves f fs marks out count (turned frames (f ∷ fs) marks out count h e) (no_length f.left.now l)

  pub loop_end : (frames fs : List Frame) (marks : List Bool) (out : List Token) (count : ℕ) →
      Reads frames marks out count → frames ≡ fs → length fs ≡ 0 → Replaces names t body before out start count
  loop_end frames fs marks out count h e l =
      ends marks out count (turned frames [] marks out count h (e ∙ no_length fs l))

  pub loop_marks : (frames fs : List Frame) (marks : List Bool) (out : List Token) (count : ℕ) →
      Reads frames marks out count → frames ≡ fs → length fs ≡ 0 → AreClear marks
  loop_marks frames fs marks out count h e l =
      all_clear marks (turned frames [] marks out count h (e ∙ no_length fs l)).only_open

pub stops : (s : Stop) (P Q : Type 0) → (P → Q) → StopsBy s P → StopsBy s Q
stops kinds.Memory P Q f h = tt
stops kinds.TooMany P Q f h = f h
