-- A script's lines, taken one after another.
use Rattle.std.proofs.Common.{◌≡◌, ℕ, ◌+◌, ◌≤◌, Bool, true, false, cond, List, [], ◌∷◌, ◌++◌, length, is_some, Some, None, Option, sym, refl, ap, ◌∙◌, subst, append_assoc, append-nil, arith, length-append}
use mir.Val.{bool_byte}
use Rattle.entry.specs.declared.Entry.{Entry}
use Rattle.layout.specs.Laws.{Holds}
use Rattle.script_parse.specs.Entries.{prefixed, entries_of}
use Rattle.script_parse.specs.Entries.{entry_of}
use Rattle.commands.specs.declared.encoding.Flaw.{Flaw}
use Rattle.commands.specs.Encoding.{Appended, Encodes, Flawed, Fails}

-- the lines before `rest` are done: the feed holds their records
pub record Sofar (all rest : List (List ℕ)) (feed : List ℕ) (records number : ℕ) : Type 0 where
  pub done : List (List ℕ)
  pub split : done ++ rest ≡ all
  pub holds : Holds feed (entries_of done)
  pub counted : records ≡ length (entries_of done)
  pub numbered : number ≡ length done

pub none_yet : (all rest : List (List ℕ)) → rest ≡ all → Sofar all rest [] 0 0
none_yet all rest e = record { done = []; split = e; holds = (refl, refl, refl); counted = refl; numbered = refl }

prefixed_append : (o : Option Entry) (es fs : List Entry) → prefixed o es ++ fs ≡ prefixed o (es ++ fs)
prefixed_append None es fs = refl
prefixed_append (Some e) es fs = refl

entries_push : (lines : List (List ℕ)) (line : List ℕ) → entries_of (lines ++ (line ∷ [])) ≡ entries_of lines ++ prefixed (entry_of line) []
entries_push [] line = refl
entries_push (l ∷ lines) line =
    ap (prefixed (entry_of l)) (entries_push lines line) ∙ sym (prefixed_append (entry_of l) (entries_of lines) (prefixed (entry_of line) []))

few : (o : Option Entry) (es : List Entry) (n : ℕ) → length es ≤ n → length (prefixed o es) ≤ n + 1
few None es n h = omega arith
few (Some e) es n h = omega arith

entries_few : (lines : List (List ℕ)) → length (entries_of lines) ≤ length lines
entries_few [] = omega arith
entries_few (l ∷ lines) = omega (arith, few (entry_of l) (entries_of lines) (length lines) (entries_few lines))

-- a flag as a number
pub flag_is : (b : Bool) → bool_byte b ≡ cond b 1 0
flag_is true = refl
flag_is false = refl

pub flag_small : (b : Bool) → bool_byte b ≤ 1
flag_small true = omega arith
flag_small false = omega arith

one_or_none : (o : Option Entry) → length (prefixed o []) ≡ cond (is_some o) 1 0
one_or_none None = refl
one_or_none (Some e) = refl

module _ {all rest : List (List ℕ)} {feed : List ℕ} {records number : ℕ} (old : Sofar all rest feed records number) where
  pub number_room : (line : List ℕ) (next : List (List ℕ)) → rest ≡ line ∷ next → number + 1 ≤ length all
  number_room line next e = omega (arith, old.numbered, ap length old.split, length-append old.done rest, ap length e)

  pub records_few : records ≤ number
  records_few = omega (arith, old.counted, old.numbered, entries_few old.done)

  pub one_more : (line : List ℕ) (next : List (List ℕ)) (added : Bool) (after : List ℕ) (more : ℕ) → rest ≡ line ∷ next → Appended feed (entry_of line) added after → more ≡ records + cond added 1 0 → Sofar all next after more (number + 1)
  one_more line next added after more e new m =
      let es = entries_of old.done in
      let one = prefixed (entry_of line) [] in
      let pushed = entries_push old.done line in
      let grown : length one ≡ cond added 1 0 = one_or_none (entry_of line) ∙ ap (λ b. cond b 1 0) (sym new.one) in
      record {
        done = old.done ++ (line ∷ []);
        split = append_assoc old.done (line ∷ []) next ∙ ap (λ (l : List (List ℕ)). old.done ++ l) (sym e) ∙ old.split;
        holds = subst (Holds after) (sym pushed) (new.holds es old.holds);
        counted = m ∙ omega (arith, old.counted, grown, ap length pushed, length-append es one);
        numbered = omega (arith, old.numbered, length-append old.done (line ∷ []));
      }

  pub no_more : rest ≡ [] → Encodes all feed records
  no_more e =
      let same : old.done ≡ all = sym (append-nil old.done) ∙ ap (λ (l : List (List ℕ)). old.done ++ l) (sym e) ∙ old.split in
      record { holds = subst (λ l. Holds feed (entries_of l)) same old.holds; counted = old.counted ∙ ap (λ l. length (entries_of l)) same }

  pub fails_here : (line : List ℕ) (next : List (List ℕ)) (flaw : Flaw) → rest ≡ line ∷ next → Flawed feed (entry_of line) flaw → Fails all (number + 1) flaw
  fails_here line next flaw e flawed = record {
    done = old.done;
    line = line;
    rest = next;
    split = ap (λ (l : List (List ℕ)). old.done ++ l) (sym e) ∙ old.split;
    numbered = ap (λ n. n + 1) old.numbered;
    feed = feed;
    holds = old.holds;
    flawed = flawed;
  }
