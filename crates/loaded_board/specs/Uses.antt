-- Which page has which use.
use Rattle.std.specs.Prelude.{List, ◌++◌, ℕ, ◌-◌, ◌/◌, codes, nat_lt, if◌then◌else◌}
use Rattle.std.specs.Fmt.{decimal}
use Rattle.rules.specs.Lent.{Memory}
use Rattle.loaded_board.specs.declared.BoardPage.{BoardPage}
use Rattle.loaded_board.specs.declared.BoardPage.TheVariants.{Flash, Ram}

-- physical page P as a page of flash where it is below RAM, else of RAM, counted from the start of either
abbrev pub board_page : Memory → Memory → ℕ → BoardPage
board_page ram flash P =
    if nat_lt P (ram.start / 4096) then Flash (P - flash.start / 4096) else Ram (record { 0 = P - ram.start / 4096 })

-- `flash page 1: section A`, `page 15: section B`
abbrev pub use_line : BoardPage → List ℕ → List ℕ
use_line (Flash k) name = codes "flash page " ++ (decimal k ++ (codes ": " ++ name))
use_line (Ram k) name = codes "page " ++ (decimal k.0 ++ (codes ": " ++ name))
