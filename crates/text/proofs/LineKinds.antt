-- The kinds of line of a text: what the line at a place adds, in whatever order the kinds are tried.
use Rattle.std.proofs.Common.{◌≡◌, ℕ, zero, suc, ◌+◌, ◌<◌, ◌≤◌, Bool, true, false, ◌&&◌, List, [], ◌∷◌, length, drop, get_or, MatchOption, Option, Some, None, refl, sym, ap, subst, ◌∙◌, arith}
use mathlib.Core.Option.{Option as Maybe, some, none}
use mathlib.Core.Bool.{false≢true}
use borrow.Author.Tests.{eq-eqb, eqb-true}
use lib.Dec.{eqb}
use Rattle.std.specs.Option.{option_or}
use Rattle.basics.specs.Lists.{All}
use Rattle.basics.proofs.Tests.{clash, by_bool, and-true}
use Rattle.lines.specs.Line.{Format, prefix, line_of}
use Rattle.lines.specs.Place.{Found, line, line_end, found, nothing, found_at, line_at, found_in}
use Rattle.lines.proofs.Prefix.{unbroken}
use Rattle.lines.proofs.LinePlaces.{line-of}
use Rattle.lines.proofs.LineTrip.{line-longer, line-not}
use Rattle.text.specs.Text.{Kind, add_line}
use Rattle.text.specs.Steps.{Adds, Stands, LineIs, line_by}

-- ── the words of the kinds ──

-- two words differ at a byte that both have
abbrev differ : List ℕ → List ℕ → Bool
differ [] u = false
differ (x ∷ w) [] = false
differ (x ∷ w) (y ∷ u) = elim (eqb x y) [ true ↦ differ w u | false ↦ true ]

-- then no text begins with both
differ-prefix : (w u t : List ℕ) → differ w u ≡ true → prefix u t ≡ true → prefix w t ≡ false
unfolding prefix
differ-prefix [] u t d h = absurd (false≢true d)
differ-prefix (x ∷ w) [] t d h = absurd (false≢true d)
differ-prefix (x ∷ w) (y ∷ u) [] d h = refl
differ-prefix (x ∷ w) (y ∷ u) (b ∷ t) d h = go (eqb b x) refl (eqb b y) refl h (differ-prefix w u t)
  where
    go : (p : Bool) → eqb b x ≡ p → (q : Bool) → eqb b y ≡ q → q && prefix u t ≡ true →
        (differ w u ≡ true → prefix u t ≡ true → prefix w t ≡ false) → p && prefix w t ≡ false
    go false i q j k rest = refl
    go true i false j k rest = absurd (false≢true k)
    go true i true j k rest =
        rest (subst (λ (z : Bool). ◌≡◌ {A = Bool} (elim z [ true ↦ differ w u | false ↦ true ]) true)
        (eq-eqb x y (sym (eqb-true b x i) ∙ eqb-true b y j)) d) k

-- where a line of g stands, none of f does
not-both : (f g : Format) (p vs : List ℕ) → differ f.word g.word ≡ true → line_of g p ≡ some vs → line_of f p ≡ none
not-both f g p vs d e =
    by_bool (prefix g.word p)
    (λ h. line-not f p (differ-prefix f.word g.word p d h))
    (λ h. let z : ◌≡◌ {A = Maybe (List ℕ)} none (some vs) = sym (line-not g p h) ∙ e in clash (cc))

-- the line that is found at a place is the text's line there
pub found-line : (f : Format) → unbroken f.word ≡ true → (s : List ℕ) (at : ℕ) (vs : List ℕ) (e : ℕ) → found vs e ≡ line_at f s at →
    line_of f (line (drop at s)) ≡ some vs
found-line f u s at vs e h = go (line_of f (line (drop at s))) refl (h ∙ line-of f u s at)
  where
    go : (o : Maybe (List ℕ)) → line_of f (line (drop at s)) ≡ o → found vs e ≡ found_at o (line_end s at) →
        line_of f (line (drop at s)) ≡ some vs
    go (some ws) i z = let y : ws ≡ vs = cc in i ∙ ap some y
    go none i z = clash (cc)

-- ── any number of kinds ──

-- the kind of line that stands at a place, by its place in the list of kinds, its numbers and where it ends; or none of the list
pub data FoundAs : Type 0 where
  told : ℕ → List ℕ → ℕ → FoundAs
  untold : FoundAs

-- the same behind one kind more
abbrev pub behind : FoundAs → FoundAs
behind (told k vs e) = told (suc k) vs e
behind untold = untold

abbrev pub or_behind : Found → FoundAs → FoundAs
or_behind (found vs e) t = told 0 vs e
or_behind nothing t = behind t

module _ {S : Type 0} where
  -- the first kind that the line at a place fits
  unfoldable pub kind_at : List (Kind S) → List ℕ → ℕ → FoundAs
  kind_at [] s at = untold
  kind_at (k ∷ ks) s at = or_behind (line_at k.format s at) (kind_at ks s at)

  abbrev pub no_kind : Kind S
  no_kind = record { format = record { word = []; largest = [] }; add = λ x vs. none }

  -- kind k of a list
  abbrev pub kind : List (Kind S) → ℕ → Kind S
  kind ks k = get_or ks k no_kind

  abbrev word : Kind S → List ℕ
  word k = k.format.word

  abbrev differs : List ℕ → List (Kind S) → Bool
  differs w [] = true
  differs w (k ∷ ks) = differ w (word k) && differs w ks

  -- no word holds a line feed, and no text begins with two of them
  abbrev pub apart : List (Kind S) → Bool
  apart [] = true
  apart (k ∷ ks) = unbroken (word k) && (differs (word k) ks && apart ks)

  apart-head : (k : Kind S) (ks : List (Kind S)) → apart (k ∷ ks) ≡ true → unbroken (word k) ≡ true
  apart-head k ks a = (and-true (unbroken (word k)) (differs (word k) ks && apart ks) a).0

  apart-tail : (k : Kind S) (ks : List (Kind S)) → apart (k ∷ ks) ≡ true → (differs (word k) ks ≡ true) × (apart ks ≡ true)
  apart-tail k ks a =
      and-true (differs (word k) ks) (apart ks) (and-true (unbroken (word k)) (differs (word k) ks && apart ks) a).1

  apart-at : (ks : List (Kind S)) (k : ℕ) → k < length ks → apart ks ≡ true → unbroken (word (kind ks k)) ≡ true
  apart-at [] k h a = absurd (omega arith)
  apart-at (j ∷ ks) zero h a = apart-head j ks a
  apart-at (j ∷ ks) (suc k) h a = apart-at ks k (omega arith) (apart-tail j ks a).1

  differs-at : (w : List ℕ) (ks : List (Kind S)) (k : ℕ) → k < length ks → differs w ks ≡ true →
      differ w (word (kind ks k)) ≡ true
  differs-at w [] k h d = absurd (omega arith)
  differs-at w (j ∷ ks) zero h d = (and-true (differ w (word j)) (differs w ks) d).0
  differs-at w (j ∷ ks) (suc k) h d = differs-at w ks k (omega arith) (and-true (differ w (word j)) (differs w ks) d).1

  -- the only kind that fits is the first
  only-first : (ks : List (Kind S)) → apart ks ≡ true → (s : List ℕ) (at k : ℕ) → k < length ks → (vs : List ℕ) (e : ℕ) →
      found vs e ≡ line_at (kind ks k).format s at → told k vs e ≡ kind_at ks s at
  unfolding kind_at
  only-first [] a s at k h vs e f = absurd (omega arith)
  only-first (j ∷ ks) a s at zero h vs e f = ap (λ t. or_behind t (kind_at ks s at)) f
  only-first (j ∷ ks) a s at (suc k) h vs e f =
      let g = (kind ks k).format in
      let b = apart-tail j ks a in
      let d = differs-at (word j) ks k (omega arith) b.0 in
      let i = found-line g (apart-at ks k (omega arith) b.1) s at vs e f in
      let n = line-of j.format (apart-head j ks a) s at
      ∙ ap (λ o. found_at o (line_end s at)) (not-both j.format g (line (drop at s)) vs d i) in
      ap behind (only-first ks b.1 s at k (omega arith) vs e f) ∙ ap (λ t. or_behind t (kind_at ks s at)) (sym n)

  -- the order in which the kinds are tried is free: what one of them answers is what the first that fits does
  pub told-known : (ks : List (Kind S)) → apart ks ≡ true → (s : List ℕ) (at k : ℕ) → k < length ks →
      (p : Option (List ℕ × ℕ)) (vs : List ℕ) (e : ℕ) → p ≡ Some (vs, e) → found_in p ≡ line_at (kind ks k).format s at →
      told k vs e ≡ kind_at ks s at
  unfolding found_in
  told-known ks a s at k h p vs e i f = only-first ks a s at k h vs e (ap found_in (sym i) ∙ f)

  -- and where none of them answers, none stands there
  pub told-unknown : (ks : List (Kind S)) (s : List ℕ) (at : ℕ) → All (λ k. nothing ≡ line_at k.format s at) ks →
      untold ≡ kind_at ks s at
  unfolding kind_at
  told-unknown [] s at h = refl
  told-unknown (k ∷ ks) s at h = ap behind (told-unknown ks s at h.1) ∙ ap (λ t. or_behind t (kind_at ks s at)) h.0

-- ── what a line adds ──

module _ {S : Type 0} (k : Kind S) (ks : List (Kind S)) (x : S) (p : List ℕ) where
  pub adds-first : (vs : List ℕ) → line_of k.format p ≡ some vs → add_line (k ∷ ks) x p ≡ k.add x vs
  unfolding add_line
  adds-first vs e = rw (e, add_line) refl

  pub adds-later : line_of k.format p ≡ none → add_line (k ∷ ks) x p ≡ add_line ks x p
  unfolding add_line
  adds-later e = rw (e, add_line) refl

-- what is known of the line at a place where kind k stands: where it ends, its numbers, and what it adds
pub record Tells {S : Type 0} (ks : List (Kind S)) (s : List ℕ) (at k : ℕ) (vs : List ℕ) (e : ℕ) : Type 0 where
  pub among : k < length ks
  pub end : e ≡ line_end s at
  pub numbers : line_of (kind ks k).format (line (drop at s)) ≡ some vs
  pub added : (x : S) → add_line ks x (line (drop at s)) ≡ (kind ks k).add x vs

module _ {S : Type 0} (s : List ℕ) (at : ℕ) where
  -- the first kind that fits tells it, behind kinds that do not
  pub kind-tells : (ks : List (Kind S)) → apart ks ≡ true → (k : ℕ) (vs : List ℕ) (e : ℕ) → told k vs e ≡ kind_at ks s at →
      Tells ks s at k vs e
  unfolding kind_at
  kind-tells [] a k vs e t = clash (cc)
  kind-tells (j ∷ ks) a k vs e t =
      go (line_of j.format (line (drop at s))) refl
      (t ∙ ap (λ f. or_behind f (kind_at ks s at)) (line-of j.format (apart-head j ks a) s at))
      (kind-tells ks (apart-tail j ks a).1)
    where
      later : line_of j.format (line (drop at s)) ≡ none → (f : FoundAs) → f ≡ kind_at ks s at → told k vs e ≡ behind f →
          ((k : ℕ) (vs : List ℕ) (e : ℕ) → told k vs e ≡ kind_at ks s at → Tells ks s at k vs e) → Tells (j ∷ ks) s at k vs e
      later i (told n ws d) q z rest =
          let y : suc n ≡ k = cc in
          let w : vs ≡ ws = cc in
          let x : e ≡ d = cc in
          let f = rest n vs e ((λ i. told n (w i) (x i)) ∙ q) in
          subst (λ k. Tells (j ∷ ks) s at k vs e) y
          (record {
            among = omega (arith, f.among);
            end = f.end;
            numbers = f.numbers;
            added = λ x. adds-later j ks x (line (drop at s)) i ∙ f.added x;
          })
      later i untold q z rest = clash (cc)

      go : (o : Maybe (List ℕ)) → line_of j.format (line (drop at s)) ≡ o →
          told k vs e ≡ or_behind (found_at o (line_end s at)) (kind_at ks s at) →
          ((k : ℕ) (vs : List ℕ) (e : ℕ) → told k vs e ≡ kind_at ks s at → Tells ks s at k vs e) → Tells (j ∷ ks) s at k vs e
      go (some ws) i z rest =
          let y : 0 ≡ k = cc in
          let w : ws ≡ vs = cc in
          let n : line_of j.format (line (drop at s)) ≡ some vs = i ∙ ap some w in
          let d : e ≡ line_end s at = cc in
          subst (λ k. Tells (j ∷ ks) s at k vs e) y
          (record { among = omega arith; end = d; numbers = n; added = λ x. adds-first j ks x (line (drop at s)) vs n })
      go none i z rest = later i (kind_at ks s at) refl z rest

  -- where no kind stands, nothing is added
  pub none-tells : (ks : List (Kind S)) → apart ks ≡ true → untold ≡ kind_at ks s at → (x : S) → add_line ks x (line (drop at s)) ≡ none
  unfolding kind_at add_line
  none-tells [] a t x = refl
  none-tells (j ∷ ks) a t x =
      go (line_of j.format (line (drop at s))) refl
      (t ∙ ap (λ f. or_behind f (kind_at ks s at)) (line-of j.format (apart-head j ks a) s at))
      (none-tells ks (apart-tail j ks a).1)
    where
      later : (f : FoundAs) → f ≡ kind_at ks s at → untold ≡ behind f → untold ≡ kind_at ks s at
      later (told n ws d) q z = clash (cc)
      later untold q z = q

      go : (o : Maybe (List ℕ)) → line_of j.format (line (drop at s)) ≡ o →
          untold ≡ or_behind (found_at o (line_end s at)) (kind_at ks s at) →
          (untold ≡ kind_at ks s at → (x : S) → add_line ks x (line (drop at s)) ≡ none) →
          add_line (j ∷ ks) x (line (drop at s)) ≡ none
      go (some ws) i z rest = clash (cc)
      go none i z rest = adds-later j ks x (line (drop at s)) i ∙ rest (later (kind_at ks s at) refl z) x

-- what `or_else` answers
abbrev OrElse : {T : Type 0} → (a b r : Option T) → Type 0
OrElse a b r = MatchOption a (r ≡ b) (λ x. r ≡ Some x)

or-else : {T : Type 0} (a b r : Option T) → OrElse a b r → r ≡ option_or a b
or-else None b r h = h
or-else (Some x) b r h = h

-- a kind of line and the records of its lines: what one adds, and how many bytes it has at least
pub record Told {L S : Type 0} (k : Kind S) (from : List ℕ → L) (adds : Adds L S) (least : ℕ) : Type 0 where
  pub whole : unbroken k.format.word ≡ true
  pub adding : (vs : List ℕ) (y : S) → k.add y vs ≡ adds (from vs) y
  pub bytes : least ≤ length k.format.word + 2

-- a text of two kinds, of which either is tried first: what a reader answers is what the kind that stands there tells
module _ {L S : Type 0} {k j : Kind S} {first second : List ℕ → L} {adds : Adds L S} {least : ℕ}
    (h : Told k first adds least) (g : Told j second adds least) (a : apart (k ∷ j ∷ []) ≡ true) (s : List ℕ) (at : ℕ) where
  abbrev kinds : List (Kind S)
  kinds = k ∷ j ∷ []

  abbrev one : Option (L × ℕ)
  one = line_by first (line_at k.format s at)

  abbrev other : Option (L × ℕ)
  other = line_by second (line_at j.format s at)

  of-first : (vs : List ℕ) (e : ℕ) → found vs e ≡ line_at k.format s at → Stands kinds adds least s at (first vs) e
  unfolding found_in
  of-first vs e f =
      let t = kind-tells s at kinds a 0 vs e (told-known kinds a s at 0 (omega arith) (Some (vs, e)) vs e refl f) in
      record {
        end = t.end;
        long = omega (arith, h.bytes, line-longer k.format (line (drop at s)) vs t.numbers, t.end);
        added = λ y. t.added y ∙ h.adding vs y;
      }

  of-second : (vs : List ℕ) (e : ℕ) → found vs e ≡ line_at j.format s at → Stands kinds adds least s at (second vs) e
  unfolding found_in
  of-second vs e f =
      let t = kind-tells s at kinds a 1 vs e (told-known kinds a s at 1 (omega arith) (Some (vs, e)) vs e refl f) in
      record {
        end = t.end;
        long = omega (arith, g.bytes, line-longer j.format (line (drop at s)) vs t.numbers, t.end);
        added = λ y. t.added y ∙ g.adding vs y;
      }

  of-none : nothing ≡ line_at k.format s at → nothing ≡ line_at j.format s at → (y : S) → add_line kinds y (line (drop at s)) ≡ none
  of-none i l = none-tells s at kinds a (told-unknown kinds s at (i, (l, tt)))

  -- the first kind is tried first
  pub first-tried : (p r : Option (L × ℕ)) → p ≡ one → OrElse p other r → LineIs kinds adds least s at r
  first-tried p r d e =
      subst (LineIs kinds adds least s at) (sym (or-else p other r e ∙ ap (λ p. option_or p other) d))
      (go (line_at k.format s at) refl (line_at j.format s at) refl)
    where
      go : (o : Found) → line_at k.format s at ≡ o → (q : Found) → line_at j.format s at ≡ q →
          LineIs kinds adds least s at (option_or (line_by first o) (line_by second q))
      go (found vs e) i q l = of-first vs e (sym i)
      go nothing i (found vs e) l = of-second vs e (sym l)
      go nothing i nothing l = of-none (sym i) (sym l)

  -- the second kind is tried first
  pub second-tried : (p r : Option (L × ℕ)) → p ≡ other → OrElse p one r → LineIs kinds adds least s at r
  second-tried p r d e =
      subst (LineIs kinds adds least s at) (sym (or-else p one r e ∙ ap (λ p. option_or p one) d))
      (go (line_at j.format s at) refl (line_at k.format s at) refl)
    where
      go : (q : Found) → line_at j.format s at ≡ q → (o : Found) → line_at k.format s at ≡ o →
          LineIs kinds adds least s at (option_or (line_by second q) (line_by first o))
      go (found vs e) l o i = of-second vs e (sym l)
      go nothing l (found vs e) i = of-first vs e (sym i)
      go nothing l nothing i = of-none (sym i) (sym l)
