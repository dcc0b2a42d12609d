pub mod TableOfTwelve
