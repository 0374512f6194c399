-- Which words ask for what.
use Rattle.std.specs.Prelude.{◌≡◌, ℕ, List, [], ◌∷◌, codes, ◌≢◌}
use Rattle.commands.specs.declared.request.Request.{Request}
use Rattle.commands.specs.declared.request.Request.TheVariants as asks

abbrev pub help_words : List (List ℕ)
help_words = codes "--help" ∷ []

abbrev pub day_words : List ℕ → List (List ℕ)
day_words script = codes "day" ∷ script ∷ []

abbrev pub decode_words : List ℕ → List (List ℕ)
decode_words feed = codes "decode" ∷ feed ∷ []

abbrev pub encode_words : List ℕ → List ℕ → List (List ℕ)
encode_words script feed = codes "encode" ∷ script ∷ feed ∷ []

abbrev pub Asks : List (List ℕ) → Request → Type 0
Asks words asks.Help = words ≡ help_words
Asks words (asks.Day script) = words ≡ day_words script.now
Asks words (asks.Decode feed) = words ≡ decode_words feed.now
Asks words (asks.Encode script feed) = words ≡ encode_words script.now feed.now
Asks words asks.Unknown =
    (words ≢ help_words) × ((script : List ℕ) → words ≢ day_words script) × ((feed : List ℕ) → words ≢ decode_words feed) × ((script feed : List ℕ) → words ≢ encode_words script feed)
