pub mod RootFound
