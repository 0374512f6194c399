-- A record of each kind, written out in hexadecimal, and what some bytes are refused with.
use Rattle.std.specs.Prelude.{◌≡◌, false, [], ◌∷◌, Some, Ok, Err}
use Rattle.entry.specs.declared.Side.TheVariants.{Buy, Sell}
use Rattle.entry.specs.declared.Entry.TheVariants as e
use Rattle.entry.specs.declared.refusals.Refusal.TheVariants as why
use Rattle.layout.specs.Layout.{fits, record_of}
use Rattle.layout.specs.Reading.{next}

pub record Examples : Type 0 where
  pub clock : record_of (e.Clock 36005000) ≡ 0x00 ∷ (0x89 ∷ (0x59 ∷ (0x22 ∷ (0x00 ∷ []))))
  pub post : record_of (e.Post 36000000 Buy 0 1000000) ≡ 0x10 ∷ (0x89 ∷ (0x54 ∷ (0x40 ∷ (0x00 ∷ (0x01 ∷ (0xE8 ∷ (0x48 ∷ (0x00 ∷ []))))))))
  pub leave : record_of (e.Leave 36007000 Sell 1020) ≡ 0x20 ∷ (0x89 ∷ (0x5B ∷ (0x16 ∷ (0x20 ∷ (0x00 ∷ (0x01 ∷ (0xFE ∷ (0x00 ∷ []))))))))
  pub trade : record_of (e.Trade 36010000 0 1000500 250) ≡ 0x30 ∷ (0x89 ∷ (0x5E ∷ (0x04 ∷ (0x00 ∷ (0x03 ∷ (0xD1 ∷ (0x0D ∷ (0x00 ∷ (0x00 ∷ (0x3E ∷ (0x80 ∷ [])))))))))))
  pub parameters : record_of (e.Parameters 36020000 (record { sp = 1000; l = 100; ur = 1300; lr = 700 })) ≡ 0x40 ∷ (0x89 ∷ (0x67 ∷ (0xC8 ∷ (0x00 ∷ (0x00 ∷ (0x03 ∷ (0xE8 ∷ (0x00 ∷ (0x00 ∷ (0x01 ∷ (0x90 ∷ (0x00 ∷ (0x00 ∷ (0x51 ∷ (0x40 ∷ (0x00 ∷ (0x00 ∷ (0xAF ∷ (0x00 ∷ [])))))))))))))))))))
  pub reference : record_of (e.Reference 36030000 2 1005) ≡ 0x50 ∷ (0x89 ∷ (0x71 ∷ (0x8C ∷ (0x10 ∷ (0x00 ∷ (0x00 ∷ (0x7D ∷ (0xA0 ∷ []))))))))
  pub ruling : record_of (e.Ruling 36040000 990) ≡ 0x60 ∷ (0x89 ∷ (0x7B ∷ (0x50 ∷ (0x00 ∷ (0x00 ∷ (0x03 ∷ (0xDE ∷ [])))))))
  -- a mode of 4 is wider than its 2 bits, a mode of 3 is not
  pub wide : fits (e.Post 0 Sell 4 1) ≡ false
  pub unknown : next (0x00 ∷ (0x89 ∷ (0x59 ∷ (0x22 ∷ (0x00 ∷ (0x70 ∷ [])))))) 5 1 ≡ Err (why.UnknownKind (record { number = 2; bit = 40 }))
  pub cut : next (0x00 ∷ (0x89 ∷ (0x59 ∷ (0x22 ∷ (0x00 ∷ (0x10 ∷ (0x89 ∷ (0x54 ∷ (0x40 ∷ (0x00 ∷ (0x01 ∷ (0xE8 ∷ (0x48 ∷ []))))))))))))) 5 1 ≡ Err (why.FeedEnds (record { number = 2; bit = 40 }))
  pub spare : next (0x00 ∷ (0x89 ∷ (0x59 ∷ (0x22 ∷ (0x00 ∷ (0x10 ∷ (0x89 ∷ (0x54 ∷ (0x40 ∷ (0x00 ∷ (0x01 ∷ (0xE8 ∷ (0x48 ∷ (0x01 ∷ [])))))))))))))) 5 1 ≡ Err (why.SpareBitSet (record { number = 2; bit = 107 }))
  pub given : next (0x00 ∷ (0x89 ∷ (0x59 ∷ (0x22 ∷ (0x00 ∷ (0x10 ∷ (0x89 ∷ (0x54 ∷ (0x40 ∷ (0x00 ∷ (0x01 ∷ (0xE8 ∷ (0x48 ∷ (0x00 ∷ [])))))))))))))) 5 1 ≡ Ok (Some (e.Post 36000000 Buy 0 1000000))
